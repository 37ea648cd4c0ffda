-- Words as text, each character by its ASCII code.
-- Assumes nothing.
use Rattle.std.specs.Prelude.{List, [], ◌∷◌, ℕ}
use Prim.Native.Char.{code}
use Prim.Native.String.{String, [] as emptyString, ◌∷◌ as ◌before◌}

abbrev pub ascii : String → List ℕ
ascii emptyString = []
ascii (character before text) = code character ∷ ascii text
