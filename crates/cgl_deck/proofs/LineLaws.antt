-- The records of a text are those of the lines that it was written from.
use Rattle.std.proofs.Common.{◌≡◌, refl, sym, ap, ap₂, ◌∙◌, ℕ, ◌+◌, Bool, true, false, not, cond, ◌&&◌, eqb, nat_lt, List, [], ◌∷◌, ◌++◌, length, map}
use Rattle.std.specs.Prelude.{IsTrue, ◌==◌}
use Rattle.std.specs.List.{AllByRecursion, list_all, onto_first}
use Rattle.std.proofs.lemmas.Bool.{and_from, and_parts, not-true, not_from_false, or_parts}
use Rattle.std.proofs.lemmas.List.Folds.{list_all-append}
use Rattle.cgl_num.specs.NumberText.{Word}
use Rattle.cgl_text.specs.Text.{begins_blank, fields_of, is_blank, lines_of}
use Rattle.cgl_model.specs.Valid.{is_name_byte}
use Rattle.cgl_decode.specs.declared.kinds.Section.{Section}
use Rattle.cgl_decode.specs.declared.kinds.Section.TheVariants.{Start, End}
use Rattle.cgl_decode.specs.Records.{Record, first_word, is_header, kept_fields, no_field, record_of, records, records_from, same_section, section_after, section_named, up_to_end}
use Rattle.cgl_deck.specs.DeckLines.{Line, behind_spaces, line_bytes, numbered, record_at, text_of}

-- ---- words

-- some bytes, none of which ends a word or a line
abbrev pub is_word : Word → Bool
is_word word = nat_lt 0 (length word) && list_all is_name_byte word

abbrev pub AreWords : List Word → Type 0
AreWords words = AllByRecursion (λ w. IsTrue (is_word w)) words

byte_parts : (b : ℕ) → is_name_byte b ≡ true → (is_blank b ≡ false) × (eqb b 10 ≡ false)
byte_parts b h = or_parts (is_blank b) (eqb b 10) (not-true _ h)

no_empty_word : {P : Type 0} → IsTrue (is_word []) → P
no_empty_word is = absurd (cc)

field_goes_on : (b : ℕ) (text : List ℕ) → is_blank b ≡ false → begins_blank text ≡ false → fields_of (b ∷ text) ≡ onto_first b (fields_of text)
field_goes_on b text full goes_on =
    ap (λ c. cond c (fields_of text) (cond (begins_blank text) ((b ∷ []) ∷ fields_of text) (onto_first b (fields_of text)))) full
    ∙ ap (λ c. cond c ((b ∷ []) ∷ fields_of text) (onto_first b (fields_of text))) goes_on

field_ends : (b : ℕ) (text : List ℕ) → is_blank b ≡ false → begins_blank text ≡ true → fields_of (b ∷ text) ≡ (b ∷ []) ∷ fields_of text
field_ends b text full ends =
    ap (λ c. cond c (fields_of text) (cond (begins_blank text) ((b ∷ []) ∷ fields_of text) (onto_first b (fields_of text)))) full
    ∙ ap (λ c. cond c ((b ∷ []) ∷ fields_of text) (onto_first b (fields_of text))) ends

field_first : (b : ℕ) (bytes rest : List ℕ) → list_all is_name_byte (b ∷ bytes) ≡ true → begins_blank rest ≡ true → fields_of ((b ∷ bytes) ++ rest) ≡ (b ∷ bytes) ∷ fields_of rest
field_first b [] rest all ends = field_ends b rest (byte_parts b (and_parts (is_name_byte b) true all).0).0 ends
field_first b (d ∷ bytes) rest all ends =
    let here = and_parts (is_name_byte b) (list_all is_name_byte (d ∷ bytes)) all in
    let next = and_parts (is_name_byte d) (list_all is_name_byte bytes) here.1 in
    field_goes_on b ((d ∷ bytes) ++ rest) (byte_parts b here.0).0 (byte_parts d next.0).0
    ∙ ap (onto_first b) (field_first d bytes rest here.1 ends)

word_first : (word : Word) (rest : List ℕ) → IsTrue (is_word word) → begins_blank rest ≡ true → fields_of (word ++ rest) ≡ word ∷ fields_of rest
word_first [] rest is ends = no_empty_word is
word_first (b ∷ bytes) rest is ends = field_first b bytes rest (and_parts (nat_lt 0 (length (b ∷ bytes))) (list_all is_name_byte (b ∷ bytes)) is).1 ends

spaces_first : (words : List Word) → begins_blank (behind_spaces words) ≡ true
spaces_first [] = refl
spaces_first (word ∷ words) = refl

-- words behind spaces are the fields of their text
pub words_are_fields : (words : List Word) → AreWords words → fields_of (behind_spaces words) ≡ words
words_are_fields [] h = refl
words_are_fields (word ∷ words) h = word_first word (behind_spaces words) h.0 (spaces_first words) ∙ ap (λ l. word ∷ l) (words_are_fields words h.1)

-- ---- lines

abbrev pub has_no_end : List ℕ → Bool
has_no_end bytes = list_all (λ b. not (b == 10)) bytes

word_has_no_end : (bytes : List ℕ) → list_all is_name_byte bytes ≡ true → has_no_end bytes ≡ true
word_has_no_end [] h = refl
word_has_no_end (b ∷ bytes) h =
    let parts = and_parts (is_name_byte b) (list_all is_name_byte bytes) h in
    and_from (not (b == 10)) (has_no_end bytes) (not_from_false _ (byte_parts b parts.0).1) (word_has_no_end bytes parts.1)

ends_together : (a b : List ℕ) → has_no_end a ≡ true → has_no_end b ≡ true → has_no_end (a ++ b) ≡ true
ends_together a b h k = list_all-append (λ c. not (c == 10)) a b ∙ and_from (has_no_end a) (has_no_end b) h k

bytes_of_word : (word : Word) → IsTrue (is_word word) → has_no_end word ≡ true
bytes_of_word word h = word_has_no_end word (and_parts (nat_lt 0 (length word)) (list_all is_name_byte word) h).1

words_have_no_end : (words : List Word) → AreWords words → has_no_end (behind_spaces words) ≡ true
words_have_no_end [] h = refl
words_have_no_end (word ∷ words) h = ends_together (32 ∷ word) (behind_spaces words) (bytes_of_word word h.0) (words_have_no_end words h.1)

line_has_no_end : (header : Bool) (section : Section) (words : List Word) → AreWords words
    → has_no_end (line_bytes (record { header = header; section = section; words = words })) ≡ true
line_has_no_end true section [] h = refl
line_has_no_end true section (word ∷ words) h = ends_together word (behind_spaces words) (bytes_of_word word h.0) (words_have_no_end words h.1)
line_has_no_end false section words h = words_have_no_end words h

line_first : (bytes rest : List ℕ) → has_no_end bytes ≡ true → lines_of ((bytes ++ 10 ∷ []) ++ rest) ≡ bytes ∷ lines_of rest
line_first [] rest h = refl
line_first (b ∷ bytes) rest h =
    let parts = and_parts (not (b == 10)) (has_no_end bytes) h in
    let more = lines_of ((bytes ++ 10 ∷ []) ++ rest) in
    ap (λ c. cond c ([] ∷ more) (onto_first b more)) (not-true (b == 10) parts.0) ∙ ap (onto_first b) (line_first bytes rest parts.1)

-- the lines of a text are those that it was written from
pub text_has_lines : (lines : List Line) → AllByRecursion (λ l. AreWords l.words) lines → lines_of (text_of lines) ≡ map line_bytes lines
text_has_lines [] h = refl
text_has_lines (l ∷ lines) h =
    line_first (line_bytes l) (text_of lines) (line_has_no_end l.header l.section l.words h.0) ∙ ap (λ more. line_bytes l ∷ more) (text_has_lines lines h.1)

-- ---- records

abbrev pub is_comment : Word → Bool
is_comment [] = false
is_comment (b ∷ bytes) = b == 42

-- a header opens its section and is no comment, and a data line stands in the section of the line before
abbrev pub IsStart : Section → Bool → Section → List Word → Type 0
IsStart before header section [] = ⊥
IsStart before true section (word ∷ words) = (section_named word ≡ section) × (is_comment word ≡ false)
IsStart before false section (word ∷ words) = section ≡ before

-- nothing follows where the section is the end's
abbrev pub IsEnded : Section → List Line → Type 0
IsEnded section [] = Unit {0}
IsEnded section (l ∷ lines) = same_section section End ≡ false

pub record IsLine (before : Section) (l : Line) : Type 0 where
  pub words : AreWords l.words
  pub start : IsStart before l.header l.section l.words

-- lines behind one of this section
abbrev pub AreLines : Section → List Line → Type 0
AreLines before [] = Unit {0}
AreLines before (l ∷ lines) = IsLine before l × IsEnded l.section lines × AreLines l.section lines

abbrev record_like : ℕ → ℕ → Section → Bool → List Word → Record
record_like n size section header fields = record { line = n; bytes = size; section = section; header = header; fields = fields }

-- what the bytes of a line say
record IsRead (before : Section) (h : Bool) (s : Section) (words : List Word) (bytes : List ℕ) : Type 0 where
  header : is_header bytes ≡ h
  fields : kept_fields bytes ≡ words
  section : section_after before bytes ≡ s

header_kept : (b : ℕ) (bytes rest : List ℕ) → is_comment (b ∷ bytes) ≡ false → kept_fields ((b ∷ bytes) ++ rest) ≡ fields_of ((b ∷ bytes) ++ rest)
header_kept b bytes rest h = ap (λ c. cond c [] (fields_of ((b ∷ bytes) ++ rest))) h

header_full : (b : ℕ) (bytes rest : List ℕ) → IsTrue (is_word (b ∷ bytes)) → begins_blank ((b ∷ bytes) ++ rest) ≡ false
header_full b bytes rest h =
    let all = (and_parts (nat_lt 0 (length (b ∷ bytes))) (list_all is_name_byte (b ∷ bytes)) h).1 in
    (byte_parts b (and_parts (is_name_byte b) (list_all is_name_byte bytes) all).0).0

section_read : (before section : Section) (word : Word) (words : List Word) (bytes : List ℕ) → is_header bytes ≡ true → kept_fields bytes ≡ word ∷ words
    → section_named word ≡ section → section_after before bytes ≡ section
section_read before section word words bytes header fields named =
    ap (λ h. cond h (section_named (first_word (kept_fields bytes))) before) header ∙ ap (λ f. section_named (first_word f)) fields ∙ named

header_read : (before section : Section) (word : Word) (words : List Word) → AreWords (word ∷ words) → section_named word ≡ section → is_comment word ≡ false
    → IsRead before true section (word ∷ words) (word ++ behind_spaces words)
header_read before section [] words h named plain = no_empty_word h.0
header_read before section (b ∷ bytes) words h named plain =
    let text = (b ∷ bytes) ++ behind_spaces words in
    let fields : kept_fields text ≡ (b ∷ bytes) ∷ words = header_kept b bytes (behind_spaces words) plain ∙ word_first (b ∷ bytes) (behind_spaces words) h.0 (spaces_first words)
    ∙ ap (λ l. (b ∷ bytes) ∷ l) (words_are_fields words h.1) in
    let header : is_header text ≡ true = ap₂ (λ c f. not c && not (no_field f)) (header_full b bytes (behind_spaces words) h.0) fields in
    record { header = header; fields = fields; section = section_read before section (b ∷ bytes) words text header fields named }

data_read : (before section : Section) (word : Word) (words : List Word) → AreWords (word ∷ words) → section ≡ before
    → IsRead before false section (word ∷ words) (behind_spaces (word ∷ words))
data_read before section word words h same = record { header = refl; fields = words_are_fields (word ∷ words) h; section = sym same }

line_read : (before : Section) (header : Bool) (section : Section) (words : List Word) → AreWords words → IsStart before header section words
    → IsRead before header section words (line_bytes (record { header = header; section = section; words = words }))
line_read before header section [] h start = absurd start
line_read before true section (word ∷ words) h start = header_read before section word words h start.0 start.1
line_read before false section (word ∷ words) h start = data_read before section word words h start

record_read : (n : ℕ) (before : Section) (l : Line) → IsRead before l.header l.section l.words (line_bytes l) → record_of n (section_after before (line_bytes l)) (line_bytes l) ≡ record_at n l
record_read n before l r =
    ap (λ s. record_like n (length (line_bytes l)) s (is_header (line_bytes l)) (kept_fields (line_bytes l))) r.section
    ∙ ap₂ (λ h f. record_like n (length (line_bytes l)) l.section h f) r.header r.fields

pub records_of_lines : (n : ℕ) (before : Section) (lines : List Line) → AreLines before lines → records_from n before (map line_bytes lines) ≡ numbered n lines
records_of_lines n before [] h = refl
records_of_lines n before (l ∷ lines) h =
    let r = line_read before l.header l.section l.words h.0.words h.0.start in
    ap₂ (λ x xs. x ∷ xs) (record_read n before l r)
    (ap (λ s. records_from (n + 1) s (map line_bytes lines)) r.section ∙ records_of_lines (n + 1) l.section lines h.2)

none_either_way : (b : Bool) → cond {A = List Record} b [] [] ≡ []
none_either_way true = refl
none_either_way false = refl

-- no line but the last is the end
pub numbered_to_end : (n : ℕ) (before : Section) (lines : List Line) → AreLines before lines → up_to_end (numbered n lines) ≡ numbered n lines
numbered_to_end n before [] h = refl
numbered_to_end n before (l ∷ []) h = ap (λ rs. record_at n l ∷ rs) (none_either_way (same_section l.section End))
numbered_to_end n before (l ∷ k ∷ lines) h =
    ap (λ c. record_at n l ∷ cond c [] (up_to_end (numbered (n + 1) (k ∷ lines)))) h.1 ∙ ap (λ rs. record_at n l ∷ rs) (numbered_to_end (n + 1) l.section (k ∷ lines) h.2)

words_of_lines : (before : Section) (lines : List Line) → AreLines before lines → AllByRecursion (λ l. AreWords l.words) lines
words_of_lines before [] h = tt
words_of_lines before (l ∷ lines) h = (h.0.words, words_of_lines l.section lines h.2)

-- the records of a text are those of its lines, numbered from 1
pub records_of_lines_text : (lines : List Line) → AreLines Start lines → records (text_of lines) ≡ numbered 1 lines
records_of_lines_text lines h =
    ap (λ ls. up_to_end (records_from 1 Start ls)) (text_has_lines lines (words_of_lines Start lines h))
    ∙ ap up_to_end (records_of_lines 1 Start lines h) ∙ numbered_to_end 1 Start lines h
