-- Laws of texts of proofs.
use Rattle.std.proofs.Common.{◌≡◌, List, [], ◌∷◌, ◌++◌, map, flat_map, refl, sym, ap, ◌∙◌}
use Rattle.std.proofs.lemmas.List.{append-nil}
use Rattle.cgl_text.specs.GrowthLaws.{flat_map_append}
use Rattle.cgl_derive.specs.declared.step.Lin.{Lin}
use Rattle.cgl_derive.specs.declared.step.Round.{Round}
use Rattle.cgl_derive.specs.declared.step.Knap.{Knap}
use Rattle.cgl_derive.specs.declared.step.Step.{Step, out-Step, out-roll-Step}
use Rattle.cgl_derive.specs.declared.step.Step.TheVariants as variant
use Rattle.cgl_derive.specs.declared.step.Step.TheVariants.{rolls-Lin, rolls-Round, rolls-Split, rolls-Knap}
use Rattle.cgl_derive.specs.declared.step.Step.TheOpen as step
use Rattle.cgl_derive.specs.declared.step.Step.TheFolds.{fold_out-Step, fold_out-Derivation, fold_out-Split, map-Step}
use Rattle.cgl_derive.specs.declared.step.Split.{Split, out-Split}
use Rattle.cgl_derive.specs.declared.step.Derivation.{Derivation, out-Derivation}
use Rattle.cgl_derive.specs.Derives.{Layer}
use Rattle.cgl_prooftext.specs.ProofText.{Text, fields_text, line, lin_text, round_text, knap_text, split_line, split_around, step_layer, derivation_layer, split_layer, step_text, split_text, derivation_text}

-- ---- fields

pub fields_append : (a b : List Text) → fields_text (a ++ b) ≡ fields_text a ++ fields_text b
unfolding fields_text
fields_append a b = flat_map_append (λ field. 32 ∷ field) a b

pub field_one : (x : Text) → fields_text (x ∷ []) ≡ 32 ∷ x
unfolding fields_text
field_one x = append-nil (32 ∷ x)

pub line_word : (word : Text) → line word [] ≡ word ++ 10 ∷ []
unfolding line fields_text
line_word word = ap (λ z. z ++ 10 ∷ []) (append-nil word)

-- ---- levels

flat_map_map : {A : Type 0} (f : A → Text) (xs : List A) → flat_map (λ t. t) (map f xs) ≡ flat_map f xs
flat_map_map f [] = refl
flat_map_map f (x ∷ xs) = ap (λ z. f x ++ z) (flat_map_map f xs)

abbrev pub layer_text : Layer → Text
layer_text (step.Lin lin) = lin_text lin
layer_text (step.Round round) = round_text round
layer_text (step.Split s) = split_text s
layer_text (step.Knap knap) = knap_text knap

layer_is : (l : Layer) → step_layer (map-Step Step Derivation Split Text Text Text step_text derivation_text split_text l) ≡ layer_text l
layer_is (step.Lin lin) = refl
layer_is (step.Round round) = refl
layer_is (step.Split s) = refl
layer_is (step.Knap knap) = refl

pub step_text_is : (s : Step) → step_text s ≡ layer_text (out-Step s)
unfolding step_text split_text derivation_text
step_text_is s = fold_out-Step Text Text Text step_layer derivation_layer split_layer s ∙ layer_is (out-Step s)

pub derivation_text_is : (d : Derivation) → derivation_text d ≡ flat_map step_text (out-Derivation d).steps
unfolding step_text split_text derivation_text
derivation_text_is d = fold_out-Derivation Text Text Text step_layer derivation_layer split_layer d ∙ flat_map_map step_text (out-Derivation d).steps

pub split_text_is : (s : Split) → split_text s ≡ split_around (split_line (out-Split s).p (out-Split s).p0 (out-Split s).claim) (flat_map step_text (out-Derivation (out-Split s).left).steps) (flat_map step_text (out-Derivation (out-Split s).right).steps)
unfolding step_text split_text derivation_text
split_text_is s =
    fold_out-Split Text Text Text step_layer derivation_layer split_layer s ∙ ap (λ z. split_around (split_line (out-Split s).p (out-Split s).p0 (out-Split s).claim) z (derivation_text (out-Split s).right)) (derivation_text_is (out-Split s).left)
    ∙ ap (λ z. split_around (split_line (out-Split s).p (out-Split s).p0 (out-Split s).claim) (flat_map step_text (out-Derivation (out-Split s).left).steps) z) (derivation_text_is (out-Split s).right)

pub step_lin : (s : Step) (lin : Lin) → s ≡ variant.Lin lin → step_text s ≡ lin_text lin
step_lin s lin is = step_text_is s ∙ ap layer_text (ap out-Step is ∙ ap out-Step (sym (rolls-Lin lin)) ∙ out-roll-Step _)

pub step_round : (s : Step) (round : Round) → s ≡ variant.Round round → step_text s ≡ round_text round
step_round s round is = step_text_is s ∙ ap layer_text (ap out-Step is ∙ ap out-Step (sym (rolls-Round round)) ∙ out-roll-Step _)

pub step_split : (s : Step) (split : Split) → s ≡ variant.Split split → step_text s ≡ split_text split
step_split s split is = step_text_is s ∙ ap layer_text (ap out-Step is ∙ ap out-Step (sym (rolls-Split split)) ∙ out-roll-Step _)

pub step_knap : (s : Step) (knap : Knap) → s ≡ variant.Knap knap → step_text s ≡ knap_text knap
step_knap s knap is = step_text_is s ∙ ap layer_text (ap out-Step is ∙ ap out-Step (sym (rolls-Knap knap)) ∙ out-roll-Step _)
