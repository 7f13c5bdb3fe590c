-- Laws in the form that goals have.
use Rattle.std.proofs.Common.{append-nil, ◌≡◌, ◌++◌, cond, Bool, true, false, ℕ, List, Some, None, Option, refl, sym, ap, ◌∙◌, Vec, map, [], take, subst, unwrap_or}
use Rattle.std.specs.declared.alloc.Global.{Global}
use Rattle.std.specs.Ordering.{nat_cmp, eq_by_cmp}
use Rattle.std.specs.Cmp.{Equal-is}
use Rattle.std.specs.Cmp.Lexicographic.{slice_cmp}
use Rattle.std.specs.FinMap.{empty, from_entries, get, insert, get-insert, get_tied, same_map, slice_cmp-IsAntisymmetric, nat_cmp-IsAntisymmetric}
use Rattle.std.proofs.lemmas.Cmp.{nat_list_cmp_total}
use Rattle.std.specs.Option.{option_map_or}
use Rattle.cgl_outside.specs.Shelf.{Files, IsLongestPiece, IsPiece, file_of, with_file, with_more}
use Rattle.std.specs.Option.{option_map}
use Rattle.std.specs.BTreeMap.{get_by_text}
use Rattle.cgl_outside.specs.Files.{Tree, entry_of, files_of}
use Rattle.cgl_outside.proofs.FilesLaws.{get_files}

pub found_file : (m : Tree) (name : List ℕ) (v : Vec ℕ Global) → get_by_text m name ≡ Some v → get (files_of m) name ≡ Some v.items
found_file m name v e = get_files m name ∙ ap (option_map (λ w. w.items)) e

pub no_file : (m : Tree) (name : List ℕ) → get_by_text m name ≡ None → get (files_of m) name ≡ None
no_file m name e = get_files m name ∙ ap (option_map (λ w. w.items)) e

-- more behind a file that is there
pub more_of_held : (files next : Files) (name old bytes : List ℕ) → get files name ≡ Some old → next ≡ insert files name (old ++ bytes)
    → Some next ≡ with_more (Some files) name bytes
unfolding file_of with_file with_more
more_of_held files next name old bytes e is = ap (λ f. Some f) is ∙ sym (ap (λ o. option_map_or (λ x. Some (insert files name (x ++ bytes))) o (Some files)) e)

pub more_of_none : (files next : Files) (name bytes : List ℕ) → get files name ≡ None → next ≡ files → Some next ≡ with_more (Some files) name bytes
unfolding file_of with_file with_more
more_of_none files next name bytes e is = ap (λ f. Some f) is ∙ sym (ap (λ o. option_map_or (λ x. Some (insert files name (x ++ bytes))) o (Some files)) e)

-- what a key that ties finds
chosen : (files : Files) (name old q : List ℕ) → get files name ≡ Some old → (b : Bool) → eq_by_cmp (slice_cmp nat_cmp) q name ≡ b → cond b (Some old) (get files q) ≡ get files q
chosen files name old q e true t = sym e ∙ get_tied nat_list_cmp_total files q name ((Equal-is _).0 t)
chosen files name old q e false t = refl

-- a file written as it was
pub same_written : (files : Files) (name old : List ℕ) → get files name ≡ Some old → insert files name old ≡ files
same_written files name old e = same_map nat_list_cmp_total (slice_cmp-IsAntisymmetric nat_cmp-IsAntisymmetric) _ _ (λ q.
    get-insert nat_list_cmp_total files name old q ∙ chosen files name old q e (eq_by_cmp (slice_cmp nat_cmp) q name) refl)

pub same_files : (m n : Tree) → n.entries ≡ m.entries → files_of n ≡ files_of m
unfolding files_of
same_files m n e = ap (λ es. from_entries (map entry_of es)) e

pub read_piece : (bytes file buf : List ℕ) (at n : ℕ) → ◌≡◌ {A = Option (List ℕ)} (Some file) (Some bytes) → IsPiece file at buf n → IsPiece bytes at buf n
read_piece bytes file buf at n e p = let P : Option (List ℕ) → Type 0 = λ o. IsPiece (unwrap_or o []) at buf n in subst P e p

pub longest_piece : (bytes file buf now : List ℕ) (at n : ℕ) → ◌≡◌ {A = Option (List ℕ)} (Some file) (Some bytes) → IsLongestPiece file at buf now n → IsLongestPiece bytes at buf now n
longest_piece bytes file buf now at n e p = let P : Option (List ℕ) → Type 0 = λ o. IsLongestPiece (unwrap_or o []) at buf now n in subst P e p

-- nothing was added: no byte of the piece is kept
kept_nothing : (files : Files) (name : List ℕ) (o : Option (List ℕ)) → get files name ≡ o → option_map_or (λ x. Some (insert files name (x ++ []))) o (Some files) ≡ Some files
kept_nothing files name None e = refl
kept_nothing files name (Some old) e = ap (λ x. Some (insert files name x)) (append-nil old) ∙ ap (λ f. Some f) (same_written files name old e)

pub none_kept : (files : Files) (name bytes : List ℕ) → Some files ≡ with_more (Some files) name (take 0 bytes)
unfolding file_of with_file with_more
none_kept files name bytes = sym (kept_nothing files name (get files name) refl)

pub no_files : (m : Tree) → m.entries ≡ [] → files_of m ≡ empty
unfolding files_of
no_files m e = ap (λ es. from_entries (map entry_of es)) e
