-- Where writes are counted from 1, the number kept for a register tells whether a write reached it, and which was last.
-- Assumes nothing.
use Rattle.std.proofs.Common.{◌≡◌, ℕ, sym, refl, ap, ◌∙◌, arith}
use mathlib.Core.Option.{Option, none, some}
use Rattle.laws.proofs.Absurd.{zero_not_one}
use Rattle.origins.specs.declared.NumberedWrite.{NumberedWrite}
use Rattle.origins.specs.Origins.{origin_of, OriginIsLast}
use Rattle.origins.specs.KeptOrigins.{kept_number, write_numbered_each, start_with, number_of}
use Rattle.origins.specs.KeptOrigins.{NumberMeans, EveryNumberMeans}
use Rattle.origins.proofs.LastWrites.{last_among, every_origin_is_last}
use Rattle.origins.proofs.KeptOrigins.{every_origin_kept}

pub every_number_means : EveryNumberMeans
every_number_means start writes counted register h =
    go (origin_of start writes register) refl ((every_origin_kept start writes).numbers register h)
  where
    is : OriginIsLast start writes register
    is = every_origin_is_last start writes register

    number : ℕ
    number = kept_number (write_numbered_each (start_with start) writes) register

    go : (origin : Option NumberedWrite) → origin_of start writes register ≡ origin
        → number ≡ number_of (origin_of start writes register) → NumberMeans start writes register number
    go none e k =
        let zero_kept : number ≡ 0 = k ∙ ap number_of e in
        record {
          only_none = λ z. is.only_none e;
          every_none = λ n. zero_kept;
          only_last = λ some-kept. absurd (omega arith);
          every_last = λ write l. let z = sym e ∙ is.every_last write l in zero_not_one (cc);
        }
    go (some write) e k =
        let kept : number ≡ write.number = k ∙ ap number_of e in
        let last = is.only_last write e in
        let positive = counted write (last_among last) in
        record {
          only_none = λ z. absurd (omega arith);
          every_none = λ n. let z = sym e ∙ is.every_none n in zero_not_one (cc);
          only_last = λ some-kept. (write, last, sym kept);
          every_last = λ other l. ap number_of (sym (is.every_last other l) ∙ e) ∙ sym kept;
        }
