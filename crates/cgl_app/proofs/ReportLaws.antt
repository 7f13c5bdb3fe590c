-- A report line by line.
use Rattle.std.proofs.Common.{◌≡◌, ◌∙◌, ◌+◌, ◌<◌, ℕ, List, [], ◌∷◌, ◌++◌, codes, length, take, get_or, sym, ap, arith, append_assoc, refl}
use Rattle.std.specs.List.{flat_map, zip}
use Rattle.std.specs.Fmt.{decimal}
use Rattle.std.specs.Prelude.{sum_by}
use Rattle.cgl_num.specs.Fraction.{fraction_text}
use Rattle.cgl_model.specs.declared.mip.Model.{Model}
use Rattle.cgl_pool.specs.declared.kept.Kept.{Kept}
use Rattle.cgl_pool.specs.Listed.{Key}
use Rattle.cgl_text.specs.Growth.{Grown, Grows}
use Rattle.cgl_text.specs.GrowthLaws.{grows_as, grows_nothing, grows_then, more_grows}
use Rattle.cgl_app.specs.Report.{counts_text, cut_line, generator_word, key_text, report_text, wide_line}

-- a number behind its word, and both behind a text
behind : (text word number : List ℕ) (a b c : Grown) → Grows text a b → Grows (word ++ number) b c → Grows (text ++ word ++ number) a c
behind text word number a b c first next = grows_as _ _ a c (sym (append_assoc text word number)) (grows_then text (word ++ number) a b c first next)

pub key_grows : (key : Key) (a b c d : Grown) → Grows (generator_word key.0) a b → Grows (codes " " ++ decimal key.1) b c → Grows (codes "\n") c d → Grows (key_text key) a d
key_grows key a b c d word item end = grows_then _ _ a c d (behind (generator_word key.0) (codes " ") (decimal key.1) a b c word item) end

pub cut_grows : (name : List ℕ) (kept : Kept) (a b c d e f : Grown) → Grows name a b → Grows (codes " ") b c → Grows (fraction_text kept.candidate.violation) c d → Grows (codes " ") d e → Grows (key_text kept.key) e f
    → Grows (cut_line (name, kept)) a f
cut_grows name kept a b c d e f word space violation behind key =
    grows_then _ _ a e f (grows_then _ _ a d e (grows_then _ _ a c d (grows_then _ _ a b c word space) violation) behind) key

pub wide_grows : (wides : List Key) (i : ℕ) (a b c d : Grown) → i < length wides → Grows (flat_map wide_line (take i wides)) a b → Grows (codes "wide ") b c → Grows (key_text (get_or wides i (0, 0))) c d
    → Grows (flat_map wide_line (take (i + 1) wides)) a d
wide_grows wides i a b c d h before word key = more_grows wide_line wides i (0, 0) a b d h before (grows_then _ _ b c d word key)

-- a text to which the lines of the cuts from here on are still to come
abbrev pub Continues : List (List ℕ) → List Kept → Grown → List (List ℕ) → List Kept → Grown → Type 0
Continues names cuts start others later text = (end : Grown) → Grows (flat_map cut_line (zip others later)) text end → Grows (flat_map cut_line (zip names cuts)) start end

pub line_grows : (names others rest : List (List ℕ)) (cuts later left : List Kept) (name : List ℕ) (kept : Kept) (a b c : Grown) → others ≡ name ∷ rest → later ≡ kept ∷ left
    → Continues names cuts a others later b → Grows (cut_line (name, kept)) b c → Continues names cuts a rest left c
line_grows names others rest cuts later left name kept a b c en ec so_far line end lines =
    so_far end (grows_as _ _ b end (sym (ap (λ z. flat_map cut_line (zip z later)) en ∙ ap (λ z. flat_map cut_line (zip (name ∷ rest) z)) ec)) (grows_then _ _ b c end line lines))

no_lines : (others : List (List ℕ)) (later : List Kept) → length later ≡ 0 → [] ≡ flat_map cut_line (zip others later)
no_lines [] later e = refl
no_lines (name ∷ others) [] e = refl
no_lines (name ∷ others) (kept ∷ later) e = absurd (omega (arith, e))

pub lines_grown : (names others : List (List ℕ)) (cuts later : List Kept) (a b : Grown) → length later ≡ 0 → Continues names cuts a others later b → Grows (flat_map cut_line (zip names cuts)) a b
lines_grown names others cuts later a b e so_far = so_far b (grows_as _ _ b b (no_lines others later e) (grows_nothing b))

pub lines_named : (names others : List (List ℕ)) (cuts later : List Kept) (a b : Grown) → length others ≡ 0 → Continues names cuts a others later b → Grows (flat_map cut_line (zip names cuts)) a b
lines_named names [] cuts later a b e so_far = so_far b (grows_nothing b)
lines_named names (name ∷ others) cuts later a b e so_far = absurd (omega (arith, e))

pub head_grows : (cuts wides : ℕ) (a b c d : Grown) → Grows (codes "cuts " ++ decimal cuts) a b → Grows (codes " wide " ++ decimal wides) b c → Grows (codes "\n") c d
    → Grows (codes "cuts " ++ decimal cuts ++ codes " wide " ++ decimal wides ++ codes "\n") a d
head_grows cuts wides a b c d first second end = grows_then _ _ a c d (behind (codes "cuts " ++ decimal cuts) (codes " wide ") (decimal wides) a b c first second) end

pub counts_grow : (rows cols entries : ℕ) (a b c d e : Grown) → Grows (codes "rows " ++ decimal rows) a b → Grows (codes " cols " ++ decimal cols) b c → Grows (codes " entries " ++ decimal entries) c d → Grows (codes "\n") d e
    → Grows (codes "rows " ++ decimal rows ++ codes " cols " ++ decimal cols ++ codes " entries " ++ decimal entries ++ codes "\n") a e
counts_grow rows cols entries a b c d e first second third end =
    let two = behind (codes "rows " ++ decimal rows) (codes " cols ") (decimal cols) a b c first second in
    grows_then _ _ a d e (behind (codes "rows " ++ decimal rows ++ codes " cols " ++ decimal cols) (codes " entries ") (decimal entries) a c d two third) end

pub report_grows : (names : List (List ℕ)) (cuts : List Kept) (wides : List Key) (a b c d : Grown)
    → Grows (codes "cuts " ++ decimal (length cuts) ++ codes " wide " ++ decimal (length wides) ++ codes "\n") a b → Grows (flat_map cut_line (zip names cuts)) b c → Grows (flat_map wide_line wides) c d
    → Grows (report_text names cuts wides) a d
unfolding report_text
report_grows names cuts wides a b c d head lines wide = grows_then _ _ a c d (grows_then _ _ a b c head lines) wide

pub model_counted : (m : Model) (rows cols entries : ℕ) → rows ≡ length m.rows → cols ≡ length m.cols → entries ≡ sum_by (λ c. length c.entries) m.cols
    → codes "rows " ++ decimal rows ++ codes " cols " ++ decimal cols ++ codes " entries " ++ decimal entries ++ codes "\n" ≡ counts_text m
unfolding counts_text
model_counted m rows cols entries er ec ee = rw (er, ec, ee)
