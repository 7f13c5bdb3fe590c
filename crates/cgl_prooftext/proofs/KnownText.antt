-- The text of a known proof.
use Rattle.std.proofs.Common.{◌≡◌, List, [], ◌∷◌, ◌++◌, codes, flat_map, pos, refl, ap, ◌∙◌}
use Rattle.std.proofs.lemmas.List.{append-nil}
use Rattle.std.specs.Fmt.{digits, decimal}
use Rattle.cgl_derive.specs.declared.step.Lin.{Lin}
use Rattle.cgl_derive.specs.declared.step.Step.{Step, roll-Step, out-roll-Step}
use Rattle.cgl_derive.specs.declared.step.Step.TheOpen as step
use Rattle.cgl_derive.specs.declared.step.Split.{Split, roll-Split}
use Rattle.cgl_derive.specs.declared.step.Derivation.{Derivation, roll-Derivation, out-roll-Derivation}
use Rattle.cgl_prooftext.specs.ProofText.{Text, fields_text, line, terms_fields, ineq_fields, refs_fields, lin_text, round_text, knap_text, split_line, split_around, step_text, split_text, derivation_text, entry_text, entries_text, book_text, step_layer, derivation_layer, split_layer}
use Rattle.cgl_derive.specs.declared.step.Step.TheFolds.{fold-roll-Split}
use Rattle.cgl_derive.specs.Derives.{Layer}
use Rattle.cgl_derive.specs.Layers.{derivation, rolled}
use Rattle.cgl_derive.specs.KnownBooks.{at_most_one_of_three, at_most_one_of_two, divided, taken, without_last}
use Rattle.cgl_derive.specs.declared.step.Ref.TheVariants as by
use Rattle.cgl_model.specs.declared.linear.Ineq.{Ineq}
use Rattle.cgl_prooftext.specs.KnownProof.{KnownBook, KnownEmptyBook, KnownProof, KnownRound, KnownKnap, KnownReferences, known_cut, known_lin_left, known_lin_right, known_split, known_derivation, one_step}
use Rattle.cgl_prooftext.proofs.ProofTextLaws.{step_text_is, derivation_text_is, layer_text}

roll_derivation : (d : step.Derivation-F Step Derivation Split) → derivation_text (roll-Derivation d) ≡ flat_map step_text d.steps
roll_derivation d = derivation_text_is (roll-Derivation d) ∙ ap (λ z. flat_map step_text z.steps) (out-roll-Derivation d)

roll_lin : (lin : Lin) → step_text (roll-Step (step.Lin lin)) ≡ lin_text lin
roll_lin lin = step_text_is (roll-Step (step.Lin lin)) ∙ ap layer_text (out-roll-Step (step.Lin lin))

left_line : lin_text known_lin_left ≡ codes "lin 2 1 g0 2 1 0 -1 >= -1\n"
unfolding fields_text line terms_fields ineq_fields refs_fields lin_text digits
left_line = refl

right_line : lin_text known_lin_right ≡ codes "lin 2 2 g0 2 r0U 2 1 0 -1 >= -1\n"
unfolding fields_text line terms_fields ineq_fields refs_fields lin_text digits
right_line = refl

one_step_text : (s : Layer) (text : Text) → step_text (roll-Step s) ≡ text → derivation_text (one_step s) ≡ text
one_step_text s text e = roll_derivation _ ∙ append-nil (step_text (roll-Step s)) ∙ e

roll_split : (s : step.Split-F Step Derivation Split) → split_text (roll-Split s) ≡ split_around (split_line s.p s.p0 s.claim) (derivation_text s.left) (derivation_text s.right)
unfolding split_text derivation_text
roll_split s = fold-roll-Split Text Text Text step_layer derivation_layer split_layer s

roll_step_split : (s : Split) → step_text (roll-Step (step.Split s)) ≡ split_text s
roll_step_split s = step_text_is (roll-Step (step.Split s)) ∙ ap layer_text (out-roll-Step (step.Split s))

branches : (head left right : Text) (a b : Text) → left ≡ a → right ≡ b → split_around head left right ≡ split_around head a b
branches head left right a b e f = ap (λ z. split_around head z right) e ∙ ap (λ z. split_around head a z) f

derivation_known : derivation_text known_derivation ≡ split_around (split_line ((0, pos 1) ∷ []) (pos 1) known_cut) (codes "lin 2 1 g0 2 1 0 -1 >= -1\n") (codes "lin 2 2 g0 2 r0U 2 1 0 -1 >= -1\n")
derivation_known =
    one_step_text (step.Split known_split) _ (roll_step_split known_split ∙ roll_split _ ∙ branches _ _ _ _ _ (one_step_text (step.Lin known_lin_left) _ (roll_lin known_lin_left ∙ left_line)) (one_step_text (step.Lin known_lin_right) _ (roll_lin known_lin_right ∙ right_line)))

around : Text → Text
around z = line (codes "cgl-proof") (codes "1" ∷ []) ++ (line (codes "cuts") (decimal 1 ∷ []) ++ (line (codes "cut") (ineq_fields known_cut) ++ z ++ line (codes "qed") []) ++ []) ++ line (codes "end") []

pub known_text : KnownProof
unfolding around fields_text line terms_fields ineq_fields split_line entry_text entries_text book_text digits
known_text = ap around derivation_known

pub known_empty_book : KnownEmptyBook
unfolding fields_text line entries_text book_text digits
known_empty_book = refl

pub known_round : KnownRound
unfolding fields_text line terms_fields ineq_fields round_text digits
known_round = refl

pub known_knap : KnownKnap
unfolding fields_text line terms_fields ineq_fields knap_text digits
known_knap = refl

pub known_references : KnownReferences
unfolding digits
known_references = refl

-- ---- a book with a shared inequality

roll_layer : (layer : Layer) → step_text (roll-Step layer) ≡ layer_text layer
roll_layer layer = step_text_is (roll-Step layer) ∙ ap layer_text (out-roll-Step layer)

roll_layers : (layers : List Layer) → flat_map step_text (rolled layers) ≡ flat_map layer_text layers
roll_layers [] = refl
roll_layers (layer ∷ layers) = ap (λ z. z ++ flat_map step_text (rolled layers)) (roll_layer layer) ∙ ap (λ z. layer_text layer ++ z) (roll_layers layers)

layers_text : (layers : List Layer) → derivation_text (derivation layers) ≡ flat_map layer_text layers
layers_text layers = roll_derivation (record { steps = rolled layers }) ∙ roll_layers layers

entry_around : Text → Ineq → Text → Text
entry_around word inequality steps = line word (ineq_fields inequality) ++ steps ++ line (codes "qed") []

lemmas_around : Text → Text
lemmas_around lemma = line (codes "lemmas") (decimal 1 ∷ []) ++ (entry_around (codes "lemma") at_most_one_of_three lemma ++ [])

cuts_around : Text → Text → Text
cuts_around first second = line (codes "cuts") (decimal 2 ∷ []) ++ (entry_around (codes "cut") at_most_one_of_three first ++ (entry_around (codes "cut") at_most_one_of_two second ++ []))

book_around : Text → Text → Text → Text
book_around lemma first second = line (codes "cgl-proof") (codes "2" ∷ []) ++ lemmas_around lemma ++ cuts_around first second ++ line (codes "end") []

three_lists : (a b c d e f : Text) → a ≡ d → b ≡ e → c ≡ f → book_around a b c ≡ book_around d e f
three_lists a b c d e f x y z = ap (λ t. book_around t b c) x ∙ ap (λ t. book_around d t c) y ∙ ap (λ t. book_around d e t) z

pub known_book : KnownBook
unfolding entry_around lemmas_around cuts_around book_around fields_text line terms_fields ineq_fields refs_fields lin_text round_text entry_text entries_text book_text digits
known_book =
    three_lists _ _ _ _ _ _ (layers_text (divided ∷ [])) (layers_text (taken (by.Shared 0) ∷ [])) (layers_text (taken (by.Shared 0) ∷ without_last ∷ []))
