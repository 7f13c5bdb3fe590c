-- The first line and the first field of a text, by the place of their end.
use Rattle.std.proofs.Common.{◌≡◌, ◌≢◌, ◌<◌, ◌≤◌, eq-eqb, ℕ, zero, suc, ◌+◌, ◌-◌, List, [], ◌∷◌, ◌++◌, append-nil, append_assoc, length, get_or, take, drop, Bool, true, false, cond, eqb, ◌||◌, refl, sym, ap, ◌∙◌, arith, add-one, length-drop}
use Rattle.std.proofs.lemmas.Bool.Decides.{nat_tests}
use Rattle.std.proofs.Math.Seq.{drop-drop}
use Rattle.std.proofs.Math.ListN.{drop_of_length-le}
use Rattle.std.proofs.lemmas.List.{drop_more, get_or-drop, map-append}
use Rattle.std.specs.List.{onto_first}
use denote.Ref.{Bor}
use Rattle.cgl_num.specs.NumberText.{Word}
use Rattle.cgl_text.specs.Seen.{word, words}
use Rattle.cgl_text.specs.Text.{lines_of, fields_of, is_blank, begins_blank, kept_fields}

line_at : (bytes : List ℕ) (end : ℕ) → end < length bytes → eqb (get_or bytes end 0) 10 ≡ true → ((k : ℕ) → k < end → eqb (get_or bytes k 0) 10 ≡ false)
    → lines_of bytes ≡ take end bytes ∷ lines_of (drop (suc end) bytes)
line_at [] end h at before = absurd (omega arith)
line_at (b ∷ bytes) zero h at before = ap (λ c. cond c ([] ∷ lines_of bytes) (onto_first b (lines_of bytes))) at
line_at (b ∷ bytes) (suc end) h at before =
    ap (λ c. cond c ([] ∷ lines_of bytes) (onto_first b (lines_of bytes))) (before 0 (omega arith))
    ∙ ap (onto_first b) (line_at bytes end (omega arith) at (λ k l. before (suc k) (omega arith)))

no_end : (b : ℕ) (bytes : List ℕ) → ((k : ℕ) → k < length (b ∷ bytes) → eqb (get_or (b ∷ bytes) k 0) 10 ≡ false) → lines_of (b ∷ bytes) ≡ (b ∷ bytes) ∷ []
no_end b [] all = ap (λ c. cond c ([] ∷ []) (onto_first b [])) (all 0 (omega arith))
no_end b (d ∷ bytes) all =
    ap (λ c. cond c ([] ∷ lines_of (d ∷ bytes)) (onto_first b (lines_of (d ∷ bytes)))) (all 0 (omega arith))
    ∙ ap (onto_first b) (no_end d bytes (λ k l. all (suc k) (omega arith)))

not_ten : (n : ℕ) → n ≢ 10 → eqb n 10 ≡ false
not_ten n ne = grind (arith, nat_tests)

pub line_found : (bytes : List ℕ) (end : ℕ) → end < length bytes → ((k : ℕ) → k < end → get_or bytes k 0 ≢ 10) → get_or bytes end 0 ≡ 10 → lines_of bytes ≡ take end bytes ∷ lines_of (drop (end + 1) bytes)
line_found bytes end h before at =
    line_at bytes end h (eq-eqb _ _ at) (λ k l. not_ten _ (before k l)) ∙ ap (λ n. take end bytes ∷ lines_of (drop n bytes)) (sym (add-one end))

pub last_line : (bytes : List ℕ) (end : ℕ) → 0 < length bytes → length bytes ≤ end → ((k : ℕ) → k < end → get_or bytes k 0 ≢ 10) → lines_of bytes ≡ bytes ∷ []
last_line [] end h le before = absurd (omega arith)
last_line (b ∷ bytes) end h le before = no_end b bytes (λ k l. not_ten _ (before k (omega arith)))

-- a byte that is not blank: onto the first field of the rest, or a field of its own
field_onto : (b : ℕ) (text : List ℕ) → is_blank b ≡ false → begins_blank text ≡ false → fields_of (b ∷ text) ≡ onto_first b (fields_of text)
field_onto b text not_blank goes_on =
    ap (λ c. cond c (fields_of text) (cond (begins_blank text) ((b ∷ []) ∷ fields_of text) (onto_first b (fields_of text)))) not_blank
    ∙ ap (λ c. cond c ((b ∷ []) ∷ fields_of text) (onto_first b (fields_of text))) goes_on

field_alone : (b : ℕ) (text : List ℕ) → is_blank b ≡ false → begins_blank text ≡ true → fields_of (b ∷ text) ≡ (b ∷ []) ∷ fields_of text
field_alone b text not_blank ends =
    ap (λ c. cond c (fields_of text) (cond (begins_blank text) ((b ∷ []) ∷ fields_of text) (onto_first b (fields_of text)))) not_blank
    ∙ ap (λ c. cond c ((b ∷ []) ∷ fields_of text) (onto_first b (fields_of text))) ends

-- a text that begins with a field has it as its first, up to where a blank or the end stands
pub field_found : (text : List ℕ) (end : ℕ) → begins_blank text ≡ false → end ≤ length text → ((k : ℕ) → k < end → is_blank (get_or text k 0) ≡ false)
    → (end < length text → is_blank (get_or text end 0) ≡ true) → fields_of text ≡ take end text ∷ fields_of (drop end text)
field_found [] end begins le before at = cc
field_found (b ∷ text) zero begins le before at = let blank : is_blank b ≡ true = at (omega arith) in cc
field_found (b ∷ []) (suc end) begins le before at = let e : end ≡ 0 = omega arith in rw e (field_alone b [] begins refl)
field_found (b ∷ (d ∷ text)) (suc zero) begins le before at = field_alone b (d ∷ text) begins (at (omega arith))
field_found (b ∷ (d ∷ text)) (suc (suc end)) begins le before at =
    field_onto b (d ∷ text) begins (before 1 (omega arith))
    ∙ ap (onto_first b) (field_found (d ∷ text) (suc end) (before 1 (omega arith)) (omega arith) (λ k l. before (suc k) (omega arith)) (λ l. at (omega arith)))

apart_test : (n m : ℕ) → n ≢ m → eqb n m ≡ false
apart_test n m apart = grind (arith, nat_tests)

last_test : (a b c : Bool) → a ≡ false → b ≡ false → c ≡ (a || b || c)
last_test true b c first second = cc
last_test false true c first second = cc
last_test false false c first second = refl

-- a byte that is no space and no tab
pub other_blank : (b : ℕ) → (b ≢ 32) × (b ≢ 9) → eqb b 13 ≡ is_blank b
other_blank b apart = last_test (eqb b 32) (eqb b 9) (eqb b 13) (apart_test b 32 apart.0) (apart_test b 9 apart.1)

-- a blank at a place is in no field
pub blank_at : (text : List ℕ) (i : ℕ) → i < length text → is_blank (get_or text i 0) ≡ true → fields_of (drop i text) ≡ fields_of (drop (i + 1) text)
blank_at text i within blank =
    let rest = drop (i + 1) text in
    let b = get_or text i 0 in
    ap fields_of (drop_more text i 0 within)
    ∙ ap (λ c. cond c (fields_of rest) (cond (begins_blank rest) ((b ∷ []) ∷ fields_of rest) (onto_first b (fields_of rest)))) blank

pub comment_is : (line : List ℕ) → 0 < length line → get_or line 0 0 ≡ 42 → kept_fields line ≡ []
comment_is [] some at = absurd (omega arith)
comment_is (b ∷ bytes) some at = ap (λ c. cond c [] (fields_of (b ∷ bytes))) (eq-eqb _ _ at)

begins_at : (text : List ℕ) → 0 < length text → is_blank (get_or text 0 0) ≡ false → begins_blank text ≡ false
begins_at [] some at = absurd (omega arith)
begins_at (b ∷ text) some at = at

-- a run of bytes that are not blank, up to a blank or the end
run_is : (text : List ℕ) (start end : ℕ) → start < end → end ≤ length text
    → ((k : ℕ) → start ≤ k → k < end → is_blank (get_or text k 0) ≡ false) → (end < length text → is_blank (get_or text end 0) ≡ true)
    → fields_of (drop start text) ≡ take (end - start) (drop start text) ∷ fields_of (drop end text)
run_is text start end lt le run ends =
    let rest = drop start text in
    let count = end - start in
    let all : length rest ≡ length text - start = length-drop start text in
    let at : (k : ℕ) → get_or rest k 0 ≡ get_or text (start + k) 0 = λ k. get_or-drop start text k 0 in
    let to_end : start + count ≡ end = omega arith in
    field_found rest count
    (begins_at rest (omega arith) (ap is_blank (at 0) ∙ run (start + 0) (omega arith) (omega arith)))
    (omega arith)
    (λ k l. ap is_blank (at k) ∙ run (start + k) (omega arith) (omega arith))
    (λ l. ap is_blank (at count ∙ ap (λ n. get_or text n 0) to_end) ∙ ends (omega arith))
    ∙ ap (λ others. take count rest ∷ fields_of others) (drop-drop count start text ∙ ap (λ n. drop n text) to_end)

-- one more word behind those that were found
words_pushed : (found next : List (Bor (List ℕ))) (first : Bor (List ℕ)) (others : List Word) → next ≡ found ++ first ∷ []
    → words next ++ others ≡ words found ++ first.now ∷ others
words_pushed found next first others is =
    ap (λ ws. words ws ++ others) is ∙ ap (λ ws. ws ++ others) (map-append word found (first ∷ [])) ∙ append_assoc (words found) (first.now ∷ []) others

pub run_pushed : (text : List ℕ) (start end : ℕ) (found next : List (Bor (List ℕ))) (field : Bor (List ℕ)) → start < end → end ≤ length text
    → ((k : ℕ) → start ≤ k → k < end → is_blank (get_or text k 0) ≡ false) → (end < length text → is_blank (get_or text end 0) ≡ true)
    → next ≡ found ++ field ∷ [] → field.now ≡ take (end - start) (drop start text)
    → words next ++ fields_of (drop end text) ≡ words found ++ fields_of (drop start text)
run_pushed text start end found next field lt le run ends is now =
    words_pushed found next field (fields_of (drop end text)) is
    ∙ ap (λ word. words found ++ word ∷ fields_of (drop end text)) now
    ∙ ap (λ others. words found ++ others) (sym (run_is text start end lt le run ends))

-- nothing is left to be found
pub all_found : (text : List ℕ) (end : ℕ) (found whole : List Word) → length text ≤ end → found ++ fields_of (drop end text) ≡ whole → found ≡ whole
all_found text end found whole le is = sym (ap (λ rest. found ++ fields_of rest) (drop_of_length-le text le) ∙ append-nil found) ∙ is
