-- `calls::digit::value` meets its contract, by the range that the byte lies in.
use mathlib.Core.Path.{◌≡◌, sym}
use Prim.Native.Nat.{◌-◌}
use native.Mathlib.Omega.{arith}
use Rattle.laws.proofs.Tables.{all_below}
use Rattle.calls.specs.Grammar.{digit_value}
use Rattle.calls.proofs.ScanLaws.{digit_between}
use Rattle.calls.proofs.digit.value.Goals as goal

pub returns-in-48-to-57 : goal.returns-in-48-to-57
unfolding digit_value all_below
returns-in-48-to-57 c =
    let e : digit_value c.args.byte ≡ c.args.byte - 48 = digit_between 48 10 (λ b. b - 48) tt c.args.byte (omega arith) (omega arith) in
    (omega arith, sym e)

pub returns-in-65-to-70 : goal.returns-in-65-to-70
unfolding digit_value all_below
returns-in-65-to-70 c =
    let e : digit_value c.args.byte ≡ c.args.byte - 55 = digit_between 65 6 (λ b. b - 55) tt c.args.byte (omega arith) (omega arith) in
    (omega arith, sym e)

pub returns-in-97-to-102 : goal.returns-in-97-to-102
unfolding digit_value all_below
returns-in-97-to-102 c =
    let e : digit_value c.args.byte ≡ c.args.byte - 87 = digit_between 97 6 (λ b. b - 87) tt c.args.byte (omega arith) (omega arith) in
    (omega arith, sym e)

pub returns-in_default : goal.returns-in_default
unfolding digit_value all_below
returns-in_default c h =
    let e : digit_value c.args.byte ≡ 16 = digit_between 0 48 (λ b. 16) tt c.args.byte (omega arith) (omega arith) in
    omega arith

pub returns-in_default-2 : goal.returns-in_default-2
unfolding digit_value all_below
returns-in_default-2 c h =
    let e : digit_value c.args.byte ≡ 16 = digit_between 58 7 (λ b. 16) tt c.args.byte (omega arith) (omega arith) in
    omega arith

pub returns-in_default-3 : goal.returns-in_default-3
unfolding digit_value all_below
returns-in_default-3 c h =
    let e : digit_value c.args.byte ≡ 16 = digit_between 71 26 (λ b. 16) tt c.args.byte (omega arith) (omega arith) in
    omega arith

pub returns-in_default-4 : goal.returns-in_default-4
unfolding digit_value all_below
returns-in_default-4 c h =
    let e : digit_value c.args.byte ≡ 16 = digit_between 103 153 (λ b. 16) tt c.args.byte (omega arith) (omega arith) in
    omega arith
