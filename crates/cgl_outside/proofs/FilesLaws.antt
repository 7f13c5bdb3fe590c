-- The files of a tree, by their names.
use Rattle.std.proofs.Common.{◌≡◌, ℕ, List, [], ◌∷◌, Some, Option, cond, true, false, Bool, refl, sym, ap, ◌∙◌, map, String, Vec}
use Rattle.std.specs.declared.alloc.Global.{Global}
use Rattle.std.specs.String.{string_bytes}
use Rattle.std.specs.Str.{bytes_eq}
use Rattle.std.specs.Ordering.{nat_cmp, eq_by_cmp}
use Rattle.std.specs.Option.{option_map}
use Rattle.std.specs.BTreeMap.{get_by_text, is_at}
use Rattle.std.specs.Map.{lookup}
use Rattle.std.specs.Cmp.{eq_by_cmp_equiv}
use Rattle.std.specs.Cmp.Lexicographic.{slice_cmp}
use Rattle.std.specs.FinMap.{insert, get, find, get-insert, get-from_entries, same_map, slice_cmp-IsAntisymmetric, nat_cmp-IsAntisymmetric}
use Rattle.std.proofs.lemmas.Cmp.{nat_list_cmp_total}
use Rattle.std.proofs.lemmas.Map.Text.{is_eq-slice_cmp}
use Rattle.cgl_outside.specs.Files.{Tree, entry_of, files_of}

mapped_choice : (b : Bool) (v : Vec ℕ Global) (o : Option (Vec ℕ Global)) → cond b (Some v.items) (option_map (λ w. w.items) o) ≡ option_map (λ w. w.items) (cond b (Some v) o)
mapped_choice true v o = refl
mapped_choice false v o = refl

find_entries : (es : List (String Global × Vec ℕ Global)) (q : List ℕ)
    → find (slice_cmp nat_cmp) q (map entry_of es) ≡ option_map (λ v. v.items) (lookup (is_at (λ k. slice_cmp nat_cmp q (string_bytes k))) es)
find_entries [] q = refl
find_entries (e ∷ es) q =
    ap (cond (eq_by_cmp (slice_cmp nat_cmp) q (string_bytes e.0)) (Some e.1.items)) (find_entries es q)
    ∙ mapped_choice (eq_by_cmp (slice_cmp nat_cmp) q (string_bytes e.0)) e.1 _

pub get_files : (m : Tree) (q : List ℕ) → get (files_of m) q ≡ option_map (λ v. v.items) (get_by_text m q)
unfolding files_of
get_files m q = get-from_entries nat_list_cmp_total (map entry_of m.entries) q ∙ find_entries m.entries q

same_test : (xs ys : List ℕ) → eq_by_cmp (slice_cmp nat_cmp) xs ys ≡ bytes_eq ys xs
same_test xs ys = (eq_by_cmp_equiv nat_list_cmp_total).symm xs ys ∙ is_eq-slice_cmp ys xs

-- a tree that differs at one name
pub files_written : (m n : Tree) (name : List ℕ) (v : Vec ℕ Global)
    → ((q : List ℕ) → get_by_text n q ≡ cond (bytes_eq name q) (Some v) (get_by_text m q)) → files_of n ≡ insert (files_of m) name v.items
files_written m n name v says = same_map nat_list_cmp_total (slice_cmp-IsAntisymmetric nat_cmp-IsAntisymmetric) _ _ (λ q.
    get_files n q ∙ ap (option_map (λ w. w.items)) (says q)
    ∙ sym (mapped_choice (bytes_eq name q) v (get_by_text m q))
    ∙ ap (cond (bytes_eq name q) (Some v.items)) (sym (get_files m q))
    ∙ ap (λ b. cond b (Some v.items) (get (files_of m) q)) (sym (same_test q name))
    ∙ sym (get-insert nat_list_cmp_total (files_of m) name v.items q))
