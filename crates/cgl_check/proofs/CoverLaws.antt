-- Tables that serve lists of steps.
use Rattle.std.proofs.Common.{◌≡◌, ◌⊎◌, inl, inr, ⊎_elim, ℕ, zero, suc, ◌+◌, ◌-◌, ◌<◌, ◌≤◌, List, [], ◌∷◌, ◌++◌, length, Option, Some, None, refl, sym, ap, ◌∙◌, subst, arith}
use Rattle.std.specs.Prelude.{option_and_then, slice_get}
use Rattle.std.proofs.lemmas.Bool.{cases_order}
use Rattle.std.proofs.lemmas.List.{append-nil, append_assoc}
use Rattle.cgl_model.specs.declared.linear.Ineq.{Ineq}
use Rattle.cgl_model.specs.FormList.{FormList}
use Rattle.cgl_model.specs.IntegerForm.{forms_of}
use Rattle.cgl_derive.specs.declared.step.Knap.{Knap}
use Rattle.cgl_derive.specs.declared.step.Step.{Step, out-Step}
use Rattle.cgl_derive.specs.declared.step.Step.TheOpen as step
use Rattle.cgl_derive.specs.declared.step.Split.{Split}
use Rattle.cgl_derive.specs.Derives.{Layer}
use Rattle.cgl_derive.specs.Meaning.{meaning}
use Rattle.cgl_check.specs.declared.frames.Frame.{Frame}
use Rattle.cgl_check.specs.declared.path.Branch.TheVariants.{Left, Right}
use Rattle.cgl_check.specs.declared.scope.Scope.{Scope}
use Rattle.cgl_check.specs.Covered.{CoversLayer, CoversList, CoversSplit}
use Rattle.cgl_check.specs.Knapsacks.{small_capacity}
use Rattle.cgl_check.specs.Room.{HasTable, HasTables, IsBelow}
use Rattle.cgl_check.specs.Walk.{AreEntered, HasNarrowGivens, IsEntered, claims_at, givens_at, inner_steps, knap_at, knap_in, meant_at, split_at, split_in, steps_at}

-- ---- a table with more places

below_wider : (p q : ℕ) (cap : Option ℕ) → p ≤ q → IsBelow p cap → IsBelow q cap
below_wider p q None h b = tt
below_wider p q (Some cap) h b = omega (arith, h, b)

table_wider : (p q : ℕ) (from : Option Ineq) → p ≤ q → HasTable p from → HasTable q from
table_wider p q None h t = tt
table_wider p q (Some from) h t = below_wider p q (small_capacity from) h t

pub list_wider : (scope : Scope) (frames : List Frame) (depth p q : ℕ) → p ≤ q → CoversList scope frames depth p → CoversList scope frames depth q
list_wider scope frames depth p q h covers more own knap entered size e = table_wider p q (meant_at scope (frames ++ more) own knap.from) h (covers more own knap entered size e)

pub layer_wider : (scope : Scope) (frames : List Frame) (depth at p q : ℕ) (layer : Layer) → p ≤ q → CoversLayer scope frames depth at p layer → CoversLayer scope frames depth at q layer
layer_wider scope frames depth at p q (step.Lin lin) h covers = tt
layer_wider scope frames depth at p q (step.Round round) h covers = tt
layer_wider scope frames depth at p q (step.Split s) h covers =
    λ branch narrow some. list_wider scope (frames ++ record { step = at; branch = branch } ∷ []) (depth - 1) p q h (covers branch narrow some)
layer_wider scope frames depth at p q (step.Knap knap) h covers = table_wider p q (meant_at scope frames at knap.from) h covers

-- ---- the first step of a way

knap_there : (o : Option Step) (knap : Knap) → option_and_then (λ s. knap_in (out-Step s)) o ≡ Some knap → (s : Step) × (o ≡ Some s) × (knap_in (out-Step s) ≡ Some knap)
knap_there None knap e = cc
knap_there (Some s) knap e = (s, refl, e)

split_there : (o : Option Step) (split : Split) → option_and_then (λ s. split_in (out-Step s)) o ≡ Some split → (s : Step) × (o ≡ Some s) × (split_in (out-Step s) ≡ Some split)
split_there None split e = cc
split_there (Some s) split e = (s, refl, e)

some_knap : (a b : Knap) → Some a ≡ Some b → a ≡ b
some_knap a b e = cc

some_split : (a b : Split) → Some a ≡ Some b → a ≡ b
some_split a b e = cc

layer_knap : (scope : Scope) (frames : List Frame) (depth at places : ℕ) (layer : Layer) (knap : Knap) → CoversLayer scope frames depth at places layer → knap_in layer ≡ Some knap
    → HasTable places (meant_at scope frames at knap.from)
layer_knap scope frames depth at places (step.Lin lin) knap covers e = cc
layer_knap scope frames depth at places (step.Round round) knap covers e = cc
layer_knap scope frames depth at places (step.Split s) knap covers e = cc
layer_knap scope frames depth at places (step.Knap k) knap covers e = subst (λ (x : Knap). HasTable places (meant_at scope frames at x.from)) (some_knap k knap e) covers

layer_split : (scope : Scope) (frames : List Frame) (depth at places : ℕ) (layer : Layer) (s : Split) → CoversLayer scope frames depth at places layer → split_in layer ≡ Some s
    → CoversSplit scope frames depth at places s
layer_split scope frames depth at places (step.Lin lin) s covers e = cc
layer_split scope frames depth at places (step.Round round) s covers e = cc
layer_split scope frames depth at places (step.Split t) s covers e = subst (CoversSplit scope frames depth at places) (some_split t s e) covers
layer_split scope frames depth at places (step.Knap k) s covers e = cc

entered_first : (root : List Step) (frames : List Frame) (f : Frame) (more : List Frame) → AreEntered root (frames ++ f ∷ more) → IsEntered (split_at (steps_at root frames) f.step)
entered_first root [] f more all = all.0
entered_first root (g ∷ frames) f more all = entered_first (inner_steps g.branch (split_at root g.step)) frames f more all.1

entered_split : (o : Option Split) → IsEntered o → (s : Split) × (o ≡ Some s) × HasNarrowGivens s
entered_split None h = absurd h
entered_split (Some s) h = (s, refl, h)

-- ---- a list by its steps

abbrev pub CoversSteps : Scope → List Frame → ℕ → ℕ → List Step → Type 0
CoversSteps scope frames depth places steps = (k : ℕ) (s : Step) → slice_get steps k ≡ Some s → CoversLayer scope frames depth k places (out-Step s)

own_covered : (scope : Scope) (frames : List Frame) (depth places own : ℕ) (knap : Knap) → CoversSteps scope frames depth places (steps_at scope.steps.now frames)
    → knap_at (steps_at scope.steps.now frames) own ≡ Some knap → HasTable places (meant_at scope frames own knap.from)
own_covered scope frames depth places own knap covers e =
    let found = knap_there (slice_get (steps_at scope.steps.now frames) own) knap e in
    layer_knap scope frames depth own places (out-Step found.0) knap (covers own found.0 found.1) found.2

behind_covered : (scope : Scope) (frames : List Frame) (depth places : ℕ) (f : Frame) (more : List Frame) (own : ℕ) (knap : Knap) → CoversSteps scope frames depth places (steps_at scope.steps.now frames)
    → AreEntered scope.steps.now (frames ++ f ∷ more) → length more + 1 ≤ depth → knap_at (steps_at scope.steps.now (frames ++ f ∷ more)) own ≡ Some knap
    → HasTable places (meant_at scope (frames ++ f ∷ more) own knap.from)
behind_covered scope frames depth places f more own knap covers entered size e =
    let root = scope.steps.now in
    let split = entered_split (split_at (steps_at root frames) f.step) (entered_first root frames f more entered) in
    let found = split_there (slice_get (steps_at root frames) f.step) split.0 split.1 in
    let within = layer_split scope frames depth f.step places (out-Step found.0) split.0 (covers f.step found.0 found.1) found.2 in
    let list = within f.branch split.2 (omega (arith, size)) in
    let same = append_assoc frames (f ∷ []) more in
    let P : List Frame → Type 0 = λ fs. AreEntered root fs → knap_at (steps_at root fs) own ≡ Some knap → HasTable places (meant_at scope fs own knap.from) in
    subst P same (λ a b. list more own knap a (omega (arith, size)) b) entered e

pub list_covered : (scope : Scope) (frames : List Frame) (depth places : ℕ) → CoversSteps scope frames depth places (steps_at scope.steps.now frames) → CoversList scope frames depth places
list_covered scope frames depth places covers [] own knap entered size e =
    let P : List Frame → Type 0 = λ fs. knap_at (steps_at scope.steps.now fs) own ≡ Some knap → HasTable places (meant_at scope fs own knap.from) in
    subst P (sym (append-nil frames)) (own_covered scope frames depth places own knap covers) e
list_covered scope frames depth places covers (f ∷ more) own knap entered size e = behind_covered scope frames depth places f more own knap covers entered (omega (arith, size)) e

-- ---- the whole derivation

pub whole_covered : (scope : Scope) (places : ℕ) → scope.forms.now ≡ forms_of scope.model.now → CoversList scope [] 64 places → HasTables scope.model.now scope.shared.now scope.steps.now places
whole_covered scope places forms covers frames own knap entered size e =
    let P : FormList → Type 0 = λ f. HasTable places (meaning f.sides scope.shared.now (givens_at scope.steps.now frames) (claims_at scope.steps.now frames own) knap.from) in
    subst P forms (covers frames own knap entered size e)

-- ---- one step more

pub there_below : (steps : List Step) (k : ℕ) (s : Step) → slice_get steps k ≡ Some s → k < length steps
there_below [] k s e = cc
there_below (t ∷ steps) zero s e = omega arith
there_below (t ∷ steps) (suc k) s e = let rest = there_below steps k s e in omega (arith, rest)

some_step : (a b : Step) → Some a ≡ Some b → a ≡ b
some_step a b e = cc

last_or_less : (k n : ℕ) → k < n + 1 → (k < n) ⊎ (k ≡ n)
last_or_less k n h = ⊎_elim (λ e. inr e) (λ o. ⊎_elim inl (λ l. absurd (omega (arith, h, l))) o) (cases_order k n)

pub covers_more : (scope : Scope) (frames : List Frame) (depth at p here q : ℕ) (steps : List Step) (s : Step)
    → ((k : ℕ) (t : Step) → k < at → slice_get steps k ≡ Some t → CoversLayer scope frames depth k p (out-Step t)) → CoversLayer scope frames depth at here (out-Step s) → slice_get steps at ≡ Some s
    → p ≤ q → here ≤ q → (k : ℕ) (t : Step) → k < at + 1 → slice_get steps k ≡ Some t → CoversLayer scope frames depth k q (out-Step t)
covers_more scope frames depth at p here q steps s before now is h l k t below e = ⊎_elim
    (λ less. layer_wider scope frames depth k p q (out-Step t) h (before k t less e))
    (λ same.
    let one : s ≡ t = some_step s t (sym is ∙ ap (slice_get steps) (sym same) ∙ e) in
    subst (λ (n : ℕ). CoversLayer scope frames depth n q (out-Step t)) (sym same) (subst (λ (x : Step). CoversLayer scope frames depth at q (out-Step x)) one (layer_wider scope frames depth at here q (out-Step s) l now)))
    (last_or_less k at below)

pub split_covered : (scope : Scope) (frames : List Frame) (depth at left right q : ℕ) (s : Split) → CoversList scope (frames ++ record { step = at; branch = Left } ∷ []) (depth - 1) left
    → CoversList scope (frames ++ record { step = at; branch = Right } ∷ []) (depth - 1) right → left ≤ q → right ≤ q → CoversSplit scope frames depth at q s
split_covered scope frames depth at left right q s l r h k Left narrow some = list_wider scope (frames ++ record { step = at; branch = Left } ∷ []) (depth - 1) left q h l
split_covered scope frames depth at left right q s l r h k Right narrow some = list_wider scope (frames ++ record { step = at; branch = Right } ∷ []) (depth - 1) right q k r

-- ---- no table with fewer places

pub least_table : (p cap : ℕ) (o : Option Ineq) (from : Ineq) → o ≡ Some from → small_capacity from ≡ Some cap → HasTable p o → cap + 1 ≤ p
least_table p cap o from e small has =
    let whole : HasTable p (Some from) = subst (HasTable p) e has in
    let below : IsBelow p (Some cap) = subst (IsBelow p) small whole in
    omega (arith, below)

layer_within : (scope : Scope) (frames : List Frame) (depth at places : ℕ) (layer : Layer) → AreEntered scope.steps.now frames → CoversList scope frames depth places
    → knap_at (steps_at scope.steps.now frames) at ≡ knap_in layer → CoversLayer scope frames depth at places layer
layer_within scope frames depth at places (step.Lin lin) entered covers e = tt
layer_within scope frames depth at places (step.Round round) entered covers e = tt
layer_within scope frames depth at places (step.Split s) entered covers e = λ branch narrow some more own knap all size is.
    let f : Frame = record { step = at; branch = branch } in
    let P : List Frame → Type 0 = λ fs. AreEntered scope.steps.now fs → knap_at (steps_at scope.steps.now fs) own ≡ Some knap → HasTable places (meant_at scope fs own knap.from) in
    subst P (sym (append_assoc frames (f ∷ []) more)) (λ a b. covers (f ∷ more) own knap a (omega (arith, some, size)) b) all is
layer_within scope frames depth at places (step.Knap knap) entered covers e =
    let P : List Frame → Type 0 = λ fs. AreEntered scope.steps.now fs → knap_at (steps_at scope.steps.now fs) at ≡ Some knap → HasTable places (meant_at scope fs at knap.from) in
    subst P (append-nil frames) (λ a b. covers [] at knap a (omega arith) b) entered e

-- what serves a list serves each of its steps
pub step_covered : (scope : Scope) (frames : List Frame) (depth at places : ℕ) (s : Step) → AreEntered scope.steps.now frames → CoversList scope frames depth places
    → slice_get (steps_at scope.steps.now frames) at ≡ Some s → CoversLayer scope frames depth at places (out-Step s)
step_covered scope frames depth at places s entered covers e =
    layer_within scope frames depth at places (out-Step s) entered covers (ap (option_and_then (λ t. knap_in (out-Step t))) e)

pub whole_needed : (scope : Scope) (places : ℕ) → scope.forms.now ≡ forms_of scope.model.now → HasTables scope.model.now scope.shared.now scope.steps.now places → CoversList scope [] 64 places
whole_needed scope places forms tables more own knap entered size e =
    let P : FormList → Type 0 = λ f. HasTable places (meaning f.sides scope.shared.now (givens_at scope.steps.now more) (claims_at scope.steps.now more own) knap.from) in
    subst P (sym forms) (tables more own knap entered size e)
