-- The test of two models holds just where they are the same.
use Rattle.std.proofs.Common.{◌≡◌, ℕ, ℤ, Bool, true, false, ◌&&◌, List, Option, Some, None, bytes_eq, nat_eq, eqb, int_eq, refl, sym, ap}
use Rattle.std.specs.Bool.{Decides}
use Rattle.std.specs.Cmp.Lexicographic.{pointwise}
use Rattle.std.proofs.lemmas.Bool.Decides.{Decides-and, Decides-like, Decides-eqb, Decides-int_eq}
use Rattle.std.proofs.lemmas.Slice.Eq.{bytes_eq-Decides, slice_eq-Decides}
use Rattle.cgl_num.specs.Decimal.{Decimal}
use Rattle.cgl_num.specs.DecimalEquality.{decimal_eq}
use Rattle.cgl_model.specs.declared.mip.RowKind.{RowKind}
use Rattle.cgl_model.specs.declared.mip.RowKind.TheVariants.{N, L, G, E}
use Rattle.cgl_model.specs.declared.mip.Row.{Row}
use Rattle.cgl_model.specs.declared.mip.Column.{Column}
use Rattle.cgl_model.specs.declared.mip.Model.{Model}
use Rattle.cgl_app.specs.SameModel.{same_column, same_entry, same_flag, same_kind, same_limit, same_model, same_row}

kind_decides : (a b : RowKind) → Decides (same_kind a b) (a ≡ b)
kind_decides N N = ((λ e. refl), (λ e. refl))
kind_decides N L = ((λ e. cc), (λ e. cc))
kind_decides N G = ((λ e. cc), (λ e. cc))
kind_decides N E = ((λ e. cc), (λ e. cc))
kind_decides L N = ((λ e. cc), (λ e. cc))
kind_decides L L = ((λ e. refl), (λ e. refl))
kind_decides L G = ((λ e. cc), (λ e. cc))
kind_decides L E = ((λ e. cc), (λ e. cc))
kind_decides G N = ((λ e. cc), (λ e. cc))
kind_decides G L = ((λ e. cc), (λ e. cc))
kind_decides G G = ((λ e. refl), (λ e. refl))
kind_decides G E = ((λ e. cc), (λ e. cc))
kind_decides E N = ((λ e. cc), (λ e. cc))
kind_decides E L = ((λ e. cc), (λ e. cc))
kind_decides E G = ((λ e. cc), (λ e. cc))
kind_decides E E = ((λ e. refl), (λ e. refl))

flag_decides : (a b : Bool) → Decides (same_flag a b) (a ≡ b)
flag_decides true true = ((λ e. refl), (λ e. refl))
flag_decides true false = ((λ e. cc), (λ e. cc))
flag_decides false true = ((λ e. cc), (λ e. cc))
flag_decides false false = ((λ e. refl), (λ e. refl))

decimal_decides : (a b : Decimal) → Decides (decimal_eq a b) (a ≡ b)
decimal_decides a b =
    Decides-like (decimal_eq a b) (λ p i. record { m = p.0 i; e = p.1 i }) (λ e. (ap (λ d. d.m) e, ap (λ d. d.e) e))
    (Decides-and (int_eq a.m b.m) (int_eq a.e b.e) (Decides-int_eq a.m b.m) (Decides-int_eq a.e b.e))

some_is : (a b : Decimal) → ◌≡◌ {A = Option Decimal} (Some a) (Some b) → a ≡ b
some_is a b e = cc

limit_decides : (a b : Option Decimal) → Decides (same_limit a b) (a ≡ b)
limit_decides None None = ((λ e. refl), (λ e. refl))
limit_decides None (Some b) = ((λ e. cc), (λ e. cc))
limit_decides (Some a) None = ((λ e. cc), (λ e. cc))
limit_decides (Some a) (Some b) = ((λ e. ap (λ x. Some x) ((decimal_decides a b).0 e)), (λ e. (decimal_decides a b).1 (some_is a b e)))

row_decides : (a b : Row) → Decides (same_row a b) (a ≡ b)
unfolding same_row
row_decides a b =
    Decides-like (same_row a b) (λ p i. record { name = p.0.0.0 i; kind = p.0.0.1 i; rhs = p.0.1 i; range = p.1 i })
    (λ e. (((ap (λ r. r.name) e, ap (λ r. r.kind) e), ap (λ r. r.rhs) e), ap (λ r. r.range) e))
    (Decides-and _ _ (Decides-and _ _ (Decides-and _ _ (bytes_eq-Decides a.name b.name) (kind_decides a.kind b.kind)) (decimal_decides a.rhs b.rhs)) (limit_decides a.range b.range))

entry_decides : (a b : ℕ × Decimal) → Decides (same_entry a b) (a ≡ b)
entry_decides a b =
    Decides-like (same_entry a b) (λ p i. (p.0 i, p.1 i)) (λ e. (ap (λ x. x.0) e, ap (λ x. x.1) e))
    (Decides-and (nat_eq a.0 b.0) (decimal_eq a.1 b.1) (Decides-eqb a.0 b.0) (decimal_decides a.1 b.1))

column_decides : (a b : Column) → Decides (same_column a b) (a ≡ b)
unfolding same_column
column_decides a b =
    Decides-like (same_column a b) (λ p i. record { name = p.0.0.0.0 i; integer = p.0.0.0.1 i; lo = p.0.0.1 i; up = p.0.1 i; entries = p.1 i })
    (λ e. ((((ap (λ c. c.name) e, ap (λ c. c.integer) e), ap (λ c. c.lo) e), ap (λ c. c.up) e), ap (λ c. c.entries) e))
    (Decides-and _ _ (Decides-and _ _ (Decides-and _ _ (Decides-and _ _ (bytes_eq-Decides a.name b.name) (flag_decides a.integer b.integer)) (limit_decides a.lo b.lo))
    (limit_decides a.up b.up)) (slice_eq-Decides entry_decides a.entries b.entries (pointwise same_entry a.entries b.entries) refl))

pub model_decides : (a b : Model) → Decides (same_model a b) (a ≡ b)
unfolding same_model
model_decides a b =
    Decides-like (same_model a b) (λ p i. record { name = p.0.0.0 i; maximise = p.0.0.1 i; rows = p.0.1 i; cols = p.1 i })
    (λ e. (((ap (λ m. m.name) e, ap (λ m. m.maximise) e), ap (λ m. m.rows) e), ap (λ m. m.cols) e))
    (Decides-and _ _ (Decides-and _ _ (Decides-and _ _ (bytes_eq-Decides a.name b.name) (flag_decides a.maximise b.maximise))
    (slice_eq-Decides row_decides a.rows b.rows (pointwise same_row a.rows b.rows) refl)) (slice_eq-Decides column_decides a.cols b.cols (pointwise same_column a.cols b.cols) refl))
