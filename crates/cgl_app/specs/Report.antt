-- The reports of the commands.
use Rattle.std.specs.Prelude.{ℕ, List, [], ◌∷◌, ◌++◌, codes, decimal, length, flat_map, zip, slice_get, sum_by, unwrap_or}
use Rattle.cgl_num.specs.Fraction.{fraction_text}
use Rattle.cgl_num.specs.NumberText.{Word}
use Rattle.cgl_model.specs.declared.mip.Model.{Model}
use Rattle.cgl_pool.specs.declared.kept.Kept.{Kept}
use Rattle.cgl_pool.specs.Listed.{Key}

-- the generators by their numbers
abbrev pub generator_words : List Word
generator_words = codes "round" ∷ codes "probe" ∷ codes "cover" ∷ codes "zerohalf" ∷ codes "gomory" ∷ codes "mir" ∷ codes "flow" ∷ codes "lift" ∷ codes "reduce" ∷ []

abbrev pub generator_word : ℕ → Word
generator_word generator = unwrap_or (slice_get generator_words generator) []

-- generator and item
abbrev pub key_text : Key → List ℕ
key_text key = generator_word key.0 ++ codes " " ++ decimal key.1 ++ codes "\n"

-- a row's name, and by how much its cut is violated
abbrev pub cut_line : Word × Kept → List ℕ
cut_line named = named.0 ++ codes " " ++ fraction_text named.1.candidate.violation ++ codes " " ++ key_text named.1.key

abbrev pub wide_line : Key → List ℕ
wide_line key = codes "wide " ++ key_text key

-- how many cuts and how many wide items, each cut under its row's name, and each wide item
unfoldable pub report_text : List Word → List Kept → List Key → List ℕ
report_text names cuts wide =
    codes "cuts " ++ decimal (length cuts) ++ codes " wide " ++ decimal (length wide) ++ codes "\n"
    ++ flat_map cut_line (zip names cuts) ++ flat_map wide_line wide

-- how many rows, columns and entries a model has
unfoldable pub counts_text : Model → List ℕ
counts_text m =
    codes "rows " ++ decimal (length m.rows) ++ codes " cols " ++ decimal (length m.cols)
    ++ codes " entries " ++ decimal (sum_by (λ c. length c.entries) m.cols) ++ codes "\n"
