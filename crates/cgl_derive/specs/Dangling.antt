-- References to shared inequalities that a book does not have.
use Rattle.std.specs.Prelude.{ℕ, nat_le, Bool, false, ◌||◌, List, length}
use Rattle.std.specs.List.{list_any}
use Rattle.cgl_derive.specs.declared.book.Book.{Book}
use Rattle.cgl_derive.specs.declared.step.Ref.{Ref}
use Rattle.cgl_derive.specs.declared.step.Ref.TheVariants as by
use Rattle.cgl_derive.specs.declared.step.Step.{Step}
use Rattle.cgl_derive.specs.declared.step.Step.TheOpen as step
use Rattle.cgl_derive.specs.declared.step.Step.TheFolds.{fold-Step}
use Rattle.cgl_derive.specs.declared.step.Derivation.{out-Derivation}

-- of n shared inequalities
abbrev pub is_beyond : ℕ → Ref → Bool
is_beyond n (by.Side place) = false
is_beyond n (by.Step k) = false
is_beyond n (by.Given k) = false
is_beyond n (by.Shared k) = nat_le n k

-- one level of each, with the answers for what it holds

abbrev pub step_dangles : ℕ → step.Step-F Bool Bool Bool → Bool
step_dangles n (step.Lin lin) = list_any (λ r. is_beyond n r.0) lin.refs
step_dangles n (step.Round round) = is_beyond n round.from
step_dangles n (step.Split dangles) = dangles
step_dangles n (step.Knap knap) = is_beyond n knap.from

abbrev pub some_dangles : step.Derivation-F Bool Bool Bool → Bool
some_dangles d = list_any (λ dangles. dangles) d.steps

abbrev pub branch_dangles : step.Split-F Bool Bool Bool → Bool
branch_dangles s = s.left || s.right

-- the step, or one inside of it at any depth, refers to such an inequality
abbrev pub dangles : ℕ → Step → Bool
dangles n = fold-Step Bool Bool Bool (step_dangles n) some_dangles branch_dangles

-- some step of a cut does
abbrev pub is_dangling : Book → Bool
is_dangling book = list_any (λ cut. list_any (dangles (length book.shared)) (out-Derivation cut.1).steps) book.cuts
