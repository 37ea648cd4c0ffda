-- `buffers::text::put_digits`, which calls itself, meets its contract: the last digit after the others.
use Rattle.buffers.proofs.text.+put_digits.Given as goal

abbrev pub decreases-put_digits : goal.decreases-put_digits
decreases-put_digits l = l.n
