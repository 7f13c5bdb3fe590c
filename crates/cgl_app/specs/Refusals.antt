-- The line that tells why a command did not do its work, and its status.
use Rattle.std.specs.Prelude.{◌≡◌, ℕ, ◌+◌, List, [], ◌∷◌, ◌++◌, Option, Some, None, option_map, unwrap_or, slice_get, flat_map, codes}
use Rattle.std.specs.Fmt.{decimal, signed_decimal}
use Rattle.cgl_model.specs.declared.mip.Model.{Model as Mip}
use Rattle.cgl_model.specs.declared.places.Var.TheVariants.{Col, Slack}
use Rattle.cgl_app.specs.declared.refusal.Spot.{Spot}
use Rattle.cgl_app.specs.declared.refusal.Spot.TheVariants.{Of, Rhs}
use Rattle.cgl_app.specs.declared.refusal.Cause.{Cause}
use Rattle.cgl_app.specs.declared.refusal.Cause.TheVariants.{Singular, Scale, TooFine, Overflow}
use Rattle.cgl_app.specs.declared.refusal.Refusal.{Refusal}
use Rattle.cgl_app.specs.declared.refusal.Refusal.TheVariants.{ReadFault, WriteFault, OutputFault, Input, Named, NotAccepted, TooLarge, Memory}
use Rattle.cgl_app.specs.declared.refusal.Unaccepted.{Unaccepted}
use Rattle.cgl_app.specs.declared.refusal.Unaccepted.TheVariants.{Deck, Entry}
use Rattle.cgl_check.specs.declared.path.Branch.{Branch}
use Rattle.cgl_check.specs.declared.path.Branch.TheVariants.{Left, Right}
use Rattle.cgl_check.specs.declared.refusal.BookRefusal.{BookRefusal}
use Rattle.cgl_check.specs.declared.refusal.EntryPlace.{EntryPlace}
use Rattle.cgl_check.specs.declared.refusal.EntryPlace.TheVariants.{Shared, Cut}
use Rattle.cgl_outside.specs.Says.{Says, joined}

-- ---- names of the model

abbrev pub row_name : Mip → ℕ → List ℕ
row_name m r = unwrap_or (option_map (λ row. row.name) (slice_get m.rows r)) []

abbrev pub column_name : Mip → ℕ → List ℕ
column_name m j = unwrap_or (option_map (λ column. column.name) (slice_get m.cols j)) []

-- a place of an equation, in two pieces: what is in front of a name, and a name or a word
abbrev pub spot_front : Spot → List ℕ
spot_front (Of (Col j)) = []
spot_front (Of (Slack r)) = codes "slack "
spot_front Rhs = []

abbrev pub spot_word : Mip → Spot → List ℕ
spot_word m (Of (Col j)) = column_name m j
spot_word m (Of (Slack r)) = row_name m r
spot_word m Rhs = codes "rhs"

abbrev pub cause_line : Mip → Cause → List ℕ
cause_line m (Singular column) = joined (codes "cgl: singular: column " ∷ column_name m column ∷ codes "\n" ∷ [])
cause_line m (Scale row) = joined (codes "cgl: scale: row " ∷ row_name m row ∷ codes "\n" ∷ [])
cause_line m (TooFine column) = joined (codes "cgl: too fine: column " ∷ column_name m column ∷ codes "\n" ∷ [])
cause_line m (Overflow step row column left right) =
    joined (codes "cgl: overflow: step " ∷ decimal step ∷ codes " row " ∷ row_name m row ∷ codes " column " ∷ spot_front column ∷ spot_word m column
    ∷ codes " left " ∷ signed_decimal left ∷ codes " right " ∷ signed_decimal right ∷ codes "\n" ∷ [])

abbrev pub cause_status : Cause → ℕ
cause_status (Singular column) = 5
cause_status (Scale row) = 6
cause_status (TooFine column) = 6
cause_status (Overflow step row column left right) = 6

-- ---- derivations that are not accepted

abbrev pub branch_text : Option Branch → List ℕ
branch_text None = []
branch_text (Some Left) = codes "l"
branch_text (Some Right) = codes "r"

abbrev pub place_text : ℕ × Option Branch → List ℕ
place_text place = decimal place.0 ++ branch_text place.1

abbrev pub behind_point : ℕ × Option Branch → List ℕ
behind_point place = codes "." ++ place_text place

-- the step numbers from outside inwards, parted by points, each with the branch that was entered; `-` where there are none
unfoldable pub path_text : List (ℕ × Option Branch) → List ℕ
path_text [] = codes "-"
path_text (first ∷ rest) = place_text first ++ flat_map behind_point rest

abbrev pub entry_word : EntryPlace → List ℕ
entry_word (Shared k) = codes "lemma "
entry_word (Cut k) = codes "cut "

-- from 1
abbrev pub entry_number : EntryPlace → ℕ
entry_number (Shared k) = k + 1
entry_number (Cut k) = k + 1

unfoldable pub entry_head : EntryPlace → List ℕ
entry_head place = joined (codes "cgl: not accepted: " ∷ entry_word place ∷ decimal (entry_number place) ∷ codes " path " ∷ [])

unfoldable pub entry_tail : ℕ → List ℕ
entry_tail why = joined (codes " why " ∷ decimal why ∷ codes "\n" ∷ [])

-- which derivation fails, where, and why
unfoldable pub entry_line : BookRefusal → List ℕ
entry_line r = entry_head r.entry ++ path_text r.reject.path ++ entry_tail r.reject.why

abbrev pub unaccepted_line : Unaccepted → List ℕ
unaccepted_line Deck = joined (codes "cgl: not accepted: deck\n" ∷ [])
unaccepted_line (Entry r) = entry_line r

-- ---- refusals, whatever the files of the command

-- the file that the refusal is about
abbrev pub file_in : {F : Type 0} → Refusal F → Option F
file_in (ReadFault file) = Some file
file_in (WriteFault file) = Some file
file_in OutputFault = None
file_in (Input file line kind) = Some file
file_in (Named cause model) = None
file_in (NotAccepted unaccepted) = None
file_in TooLarge = None
file_in Memory = None

-- its name
abbrev pub name_in : {F : Type 0} → (F → List ℕ) → Refusal F → List ℕ
name_in name refusal = unwrap_or (option_map name (file_in refusal)) []

abbrev pub usage_line : List ℕ
usage_line = joined (codes "cgl: bad command line\n" ∷ [])

-- what is told of a command that was refused so, where its file has this name
abbrev pub line_of : {F : Type 0} → List ℕ → Refusal F → List ℕ
line_of name (ReadFault file) = joined (codes "cgl: read fault: " ∷ name ∷ codes "\n" ∷ [])
line_of name (WriteFault file) = joined (codes "cgl: write fault: " ∷ name ∷ codes "\n" ∷ [])
line_of name OutputFault = joined (codes "cgl: write fault: " ∷ codes "standard output" ∷ codes "\n" ∷ [])
line_of name (Input file line kind) =
    joined (codes "cgl: input fault: " ∷ name ∷ codes " line " ∷ decimal line ∷ codes " kind " ∷ decimal kind ∷ codes "\n" ∷ [])
line_of name (Named cause model) = cause_line model cause
line_of name (NotAccepted unaccepted) = unaccepted_line unaccepted
line_of name TooLarge = joined (codes "cgl: too large\n" ∷ [])
line_of name Memory = joined (codes "cgl: out of memory\n" ∷ [])

abbrev pub status_in : {F : Type 0} → Refusal F → ℕ
status_in (ReadFault file) = 3
status_in (WriteFault file) = 4
status_in OutputFault = 4
status_in (Input file line kind) = 5
status_in (Named cause model) = cause_status cause
status_in (NotAccepted unaccepted) = 1
status_in TooLarge = 6
status_in Memory = 7

abbrev pub status_of : {F : Type 0} → Option (Refusal F) → ℕ
status_of None = 0
status_of (Some refusal) = status_in refusal

-- nothing is told of work that was done, and one line of a refusal
abbrev pub Tells : {F : Type 0} → (F → List ℕ) → Option (List ℕ) → Option (List ℕ) → ℕ → ℕ → Option (Refusal F) → Type 0
Tells name told now faults count None = (now ≡ told) × (count ≡ faults)
Tells name told now faults count (Some refusal) = Says told now faults count (line_of (name_in name refusal) refusal)
