-- A small model, and books of derivations over it.
use Rattle.std.specs.Prelude.{pos, negsuc, List, [], ◌∷◌, codes, false}
use Rattle.cgl_model.specs.declared.linear.Ineq.{Ineq}
use Rattle.cgl_model.specs.declared.mip.Column.{Column}
use Rattle.cgl_model.specs.declared.mip.Model.{Model}
use Rattle.cgl_model.specs.declared.mip.RowKind.TheVariants.{L, N}
use Rattle.cgl_model.specs.declared.places.End.TheVariants.{Lower, Upper}
use Rattle.cgl_model.specs.declared.places.Place.TheVariants.{Bound, Row as RowPlace}
use Rattle.cgl_derive.specs.declared.book.Book.{Book}
use Rattle.cgl_derive.specs.declared.step.Ref.{Ref}
use Rattle.cgl_derive.specs.declared.step.Ref.TheVariants as by
use Rattle.cgl_derive.specs.Books.{Entry}
use Rattle.cgl_derive.specs.Derives.{Layer}
use Rattle.cgl_derive.specs.KnownDerivations.{contradiction, ineq, lin, other_column, round, row_of, whole}
use Rattle.cgl_derive.specs.KnownKnapsacks.{binary}
use Rattle.cgl_derive.specs.Layers.{derivation}

-- a + b + c to be least, 3a + 3b + 3c <= 5, all binary
abbrev pub in_both_rows : Column
in_both_rows = record (binary (pos 3)) { entries = (0, whole (pos 1)) ∷ (1, whole (pos 3)) ∷ [] }

abbrev pub three_binaries : Model
three_binaries = record {
  name = [];
  maximise = false;
  rows = record (row_of N (pos 0)) { name = codes "OBJ" } ∷ row_of L (pos 5) ∷ [];
  cols = in_both_rows ∷ in_both_rows ∷ in_both_rows ∷ [];
}

abbrev pub end_of_second : Ref
end_of_second = by.Side (RowPlace 1 Upper)

-- ---- inequalities

-- -a - b - c >= -1
abbrev pub at_most_one_of_three : Ineq
at_most_one_of_three = ineq ((0, negsuc 0) ∷ (1, negsuc 0) ∷ (2, negsuc 0) ∷ []) (negsuc 0)

-- -a - b >= -1
abbrev pub at_most_one_of_two : Ineq
at_most_one_of_two = ineq ((0, negsuc 0) ∷ (1, negsuc 0) ∷ []) (negsuc 0)

-- ---- steps

-- -3a - 3b - 3c >= -5 divided by 3
abbrev pub divided : Layer
divided = round (pos 3) end_of_second at_most_one_of_three

-- what a reference means, as it stands
abbrev pub taken : Ref → Layer
taken from = lin (pos 1) ((from, pos 1) ∷ []) at_most_one_of_three

-- the first claim, and c >= 0
abbrev pub without_last : Layer
without_last = lin (pos 1) ((by.Step 0, pos 1) ∷ (by.Side (Bound 2 Lower), pos 1) ∷ []) at_most_one_of_two

-- ---- books

abbrev pub of_three : Layer → Entry
of_three layer = (at_most_one_of_three, derivation (layer ∷ []))

abbrev pub of_two : Layer → Entry
of_two layer = (at_most_one_of_two, derivation (layer ∷ without_last ∷ []))

-- the two cuts, whose derivations begin with this step
abbrev pub cuts_by : Layer → List Entry
cuts_by layer = of_three layer ∷ of_two layer ∷ []

-- each cut divides
abbrev pub plain_book : Book
plain_book = record { shared = []; cuts = cuts_by divided }

-- the division is shared
abbrev pub shared_book : Book
shared_book = record { shared = of_three divided ∷ []; cuts = cuts_by (taken (by.Shared 0)) }

-- the cuts take an inequality that is not there
abbrev pub lacking_book : Book
lacking_book = record { shared = of_three divided ∷ []; cuts = cuts_by (taken (by.Shared 1)) }

-- an inequality that is derived from itself
abbrev pub circular_book : Book
circular_book = record { shared = of_three (taken (by.Shared 0)) ∷ []; cuts = [] }

-- y >= 0 for a column that the model does not have, by a contradiction
abbrev pub beyond_book : Book
beyond_book = record { shared = (other_column, contradiction) ∷ []; cuts = [] }
