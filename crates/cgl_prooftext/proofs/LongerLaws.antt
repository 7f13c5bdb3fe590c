-- What a text grows by, in its length and in its bytes.
use Rattle.std.proofs.Common.{◌≡◌, ℕ, List, [], ◌∷◌, ◌++◌, flat_map, refl, sym, ap, ◌∙◌, subst, ◌+◌, ◌<◌, ◌≤◌, length, length-append, take, get_or, arith, codes}
use Rattle.std.specs.Fmt.{decimal}
use Rattle.std.proofs.lemmas.List.{take_all}
use Rattle.cgl_text.specs.GrowthLaws.{flat_map_more, grows_nothing, grows_then}
use Rattle.cgl_derive.specs.declared.step.Split.{Split, out-Split}
use Rattle.cgl_derive.specs.declared.step.Derivation.{out-Derivation}
use Rattle.cgl_derive.specs.Books.{Entry}
use Rattle.cgl_prooftext.specs.declared.output.Output.{Output}
use Rattle.cgl_prooftext.specs.TextLength.{most}
use Rattle.cgl_prooftext.specs.TextOutput.{Longer}
use Rattle.cgl_prooftext.specs.ProofText.{Text, fields_text, line, split_line, step_text, split_text, ineq_fields, entry_text, entries_text, book_text, head_text}
use Rattle.cgl_prooftext.proofs.ProofTextLaws.{fields_append, field_one, line_word, derivation_text_is, split_text_is}

-- ---- pieces

pub longer_nothing : (a : Output) → Longer [] a a
longer_nothing a = record { kept = refl; len = λ n is. is ∙ ap most (omega arith); bytes = grows_nothing _ }

pub longer_then : (x y : Text) (a b c : Output) → Longer x a b → Longer y b c → Longer (x ++ y) a c
longer_then x y a b c first second = record {
  kept = second.kept ∙ first.kept;
  len = λ n is. second.len (n + length x) (first.len n is) ∙ ap most (omega (arith, length-append x y));
  bytes = grows_then x y _ _ _ first.bytes second.bytes;
}

pub longer_as : (x y : Text) (a b : Output) → x ≡ y → Longer x a b → Longer y a b
longer_as x y a b e longer = subst (λ (z : Text). Longer z a b) e longer

-- a text that begins with nothing has the length of what it grew by
pub measured : (x : Text) (a b : Output) → a.len ≡ 0 → Longer x a b → b.len ≡ most (length x)
measured x a b none longer = omega (arith, longer.len 0 none)

-- ---- items of a list

pub item_turn : {X : Type 0} (f : X → Text) (xs : List X) (i : ℕ) (x : X) (a b c : Output) → i < length xs → x ≡ get_or xs i x
    → Longer (flat_map f (take i xs)) a b → Longer (f x) b c → Longer (flat_map f (take (i + 1) xs)) a c
item_turn f xs i x a b c lt is before here =
    longer_as _ _ a c (sym (flat_map_more f xs i x lt)) (longer_then _ _ a b c before (longer_as _ _ b c (ap f is) here))

pub items_ended : {X : Type 0} (f : X → Text) (xs : List X) (i : ℕ) (a b : Output) → length xs ≤ i → Longer (flat_map f (take i xs)) a b → Longer (flat_map f xs) a b
items_ended f xs i a b le longer = longer_as _ _ a b (ap (flat_map f) (take_all i xs le)) longer

-- ---- fields

pub no_fields : (a : Output) → Longer (fields_text []) a a
unfolding fields_text
no_fields a = longer_nothing a

pub field_longer : (x : Text) (a b c : Output) → Longer (32 ∷ []) a b → Longer x b c → Longer (fields_text (x ∷ [])) a c
field_longer x a b c space field = longer_as _ _ a c (sym (field_one x)) (longer_then (32 ∷ []) x a b c space field)

pub fields_longer : (x y : List Text) (a b c : Output) → Longer (fields_text x) a b → Longer (fields_text y) b c → Longer (fields_text (x ++ y)) a c
fields_longer x y a b c first second = longer_as _ _ a c (sym (fields_append x y)) (longer_then (fields_text x) (fields_text y) a b c first second)

pub more_fields : {X : Type 0} (f : X → List Text) (xs : List X) (i : ℕ) (d : X) (a b c : Output) → i < length xs
    → Longer (fields_text (flat_map f (take i xs))) a b → Longer (fields_text (f (get_or xs i d))) b c → Longer (fields_text (flat_map f (take (i + 1) xs))) a c
more_fields f xs i d a b c lt before here =
    longer_as _ _ a c (ap fields_text (sym (flat_map_more f xs i d lt))) (fields_longer (flat_map f (take i xs)) (f (get_or xs i d)) a b c before here)

-- ---- lines

pub line_longer : (word : Text) (fields : List Text) (a b c d : Output) → Longer word a b → Longer (fields_text fields) b c → Longer (10 ∷ []) c d → Longer (line word fields) a d
unfolding line
line_longer word fields a b c d first middle end = longer_then _ _ a c d (longer_then word (fields_text fields) a b c first middle) end

word_longer : (word : Text) (a b : Output) → Longer (word ++ 10 ∷ []) a b → Longer (line word []) a b
word_longer word a b longer = longer_as _ _ a b (sym (line_word word)) longer

pub split_longer : (s : Split) (a b c d e f : Output) → Longer (split_line (out-Split s).p (out-Split s).p0 (out-Split s).claim) a b
    → Longer (flat_map step_text (out-Derivation (out-Split s).left).steps) b c → Longer (codes "else\n") c d
    → Longer (flat_map step_text (out-Derivation (out-Split s).right).steps) d e → Longer (codes "done\n") e f → Longer (split_text s) a f
split_longer s a b c d e f head left middle right end =
    longer_as _ _ a f (sym (split_text_is s))
    (longer_then _ _ a e f
    (longer_then _ _ a d e
    (longer_then _ _ a c d
    (longer_then _ _ a b c head left)
    (word_longer (codes "else") c d middle)) right)
    (word_longer (codes "done") e f end))

-- ---- the whole text

pub entry_longer : (word : Text) (entry : Entry) (a b c d e f : Output) → Longer word a b → Longer (fields_text (ineq_fields entry.0)) b c → Longer (10 ∷ []) c d
    → Longer (flat_map step_text (out-Derivation entry.1).steps) d e → Longer (codes "qed\n") e f → Longer (entry_text word entry) a f
unfolding entry_text
entry_longer word entry a b c d e f first fields end steps last =
    longer_then _ _ a e f
    (longer_then _ _ a d e (line_longer word (ineq_fields entry.0) a b c d first fields end) (longer_as _ _ d e (sym (derivation_text_is entry.1)) steps))
    (word_longer (codes "qed") e f last)

pub entries_longer : (words word : Text) (entries : List Entry) (a b c d e : Output) → Longer words a b → Longer (fields_text (decimal (length entries) ∷ [])) b c → Longer (10 ∷ []) c d
    → Longer (flat_map (entry_text word) entries) d e → Longer (entries_text words word entries) a e
unfolding entries_text
entries_longer words word entries a b c d e first count end items =
    longer_then _ _ a d e (line_longer words (decimal (length entries) ∷ []) a b c d first count end) items

pub head_of_none : (shared : List Entry) (a b : Output) → length shared ≡ 0 → Longer (codes "cgl-proof 1\n") a b → Longer (head_text shared) a b
unfolding line fields_text
head_of_none [] a b none longer = longer
head_of_none (entry ∷ entries) a b none longer = absurd (omega arith)

pub head_of_some : (shared : List Entry) (a b c : Output) → 0 < length shared → Longer (codes "cgl-proof 2\n") a b → Longer (entries_text (codes "lemmas") (codes "lemma") shared) b c → Longer (head_text shared) a c
unfolding line fields_text
head_of_some [] a b c some first lemmas = absurd (omega arith)
head_of_some (entry ∷ entries) a b c some first lemmas = longer_then _ _ a b c first lemmas

pub book_longer : (shared cuts : List Entry) (a b c d : Output) → Longer (head_text shared) a b → Longer (entries_text (codes "cuts") (codes "cut") cuts) b c → Longer (codes "end\n") c d
    → Longer (book_text (record { shared = shared; cuts = cuts })) a d
unfolding book_text
book_longer shared cuts a b c d head entries end =
    longer_then _ _ a c d (longer_then _ _ a b c head entries) (word_longer (codes "end") c d end)
