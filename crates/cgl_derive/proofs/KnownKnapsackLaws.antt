-- What is right of known knapsack steps.
use Rattle.std.proofs.Common.{◌≡◌, ℤ, pos, negsuc, ◌^◌, true, false, [], ◌∷◌, Option, Some, None, IfSome, refl, sym, subst, inl, inr, arith}
use Rattle.std.proofs.lemmas.Int.{ints}
use Rattle.cgl_num.specs.Gcd.{gcd, gcd_of}
use Rattle.cgl_num.specs.Fraction.{lowest}
use Rattle.cgl_model.specs.declared.linear.Ineq.{Ineq}
use Rattle.cgl_model.specs.declared.mip.Column.{Column}
use Rattle.cgl_model.specs.declared.places.End.TheVariants.{Lower, Upper}
use Rattle.cgl_model.specs.IntegerForm.{forms_of, row_shape}
use Rattle.cgl_derive.specs.declared.step.Ref.TheVariants as by
use Rattle.cgl_derive.specs.Binary.{IsBinary, IsBinaryAt, holds_at_bits, holds_of_all, meets_at}
use Rattle.cgl_derive.specs.Derives.{Derives, KnapIsRight}
use Rattle.cgl_derive.specs.Knapsack.{IsSameSign}
use Rattle.cgl_derive.specs.KnownDerivations.{at_least, at_most_one, column_of, end_of_row, ineq, one_column, whole}
use Rattle.cgl_derive.specs.KnownKnapsacks.{at_most, binary, both_signs, by_knap, complemented, end_of_first, enough, four_weights, great_multiple, knap, lifted_cover, lifted_too_far, one_of_two, turned}
use Rattle.cgl_derive.proofs.BinaryLaws.{bits_decided}
use Rattle.cgl_derive.proofs.KnownLaws.{derives, refuted}

is_binary : (coefficient : ℤ) → IsBinary (binary coefficient)
is_binary coefficient = record { integer = refl; lower = refl; upper = refl }

-- what has no coefficient, or one of the other sign
no_sign : IsSameSign (pos 0) (negsuc 0) → ⊥
no_sign (inl s) = omega (arith, ints, s.0)
no_sign (inr s) = omega (arith, ints, s.0)

opposite_signs : IsSameSign (pos 5) (negsuc 0) → ⊥
opposite_signs (inl s) = omega (arith, ints, s.1)
opposite_signs (inr s) = omega (arith, ints, s.0)

-- ---- over four weights

abbrev light : Ineq
light = ineq ((0, negsuc 1) ∷ (1, negsuc 1) ∷ (2, negsuc 1) ∷ (3, negsuc 3) ∷ []) (negsuc 4)

cover_right : KnapIsRight four_weights light lifted_cover
unfolding holds_at_bits holds_of_all meets_at
cover_right = record {
  columns = (omega arith, (omega arith, (omega arith, (omega arith, tt))));
  binary = (
    (binary (pos 2), refl, is_binary (pos 2)),
    ((binary (pos 2), refl, is_binary (pos 2)), ((binary (pos 2), refl, is_binary (pos 2)), ((binary (pos 4), refl, is_binary (pos 4)), tt))),
  );
  room = omega (arith, ints);
  small = omega arith;
  narrow_from = omega arith;
  signs = (
    inr (omega (arith, ints), omega (arith, ints)),
    (inr (omega (arith, ints), omega (arith, ints)), (inr (omega (arith, ints), omega (arith, ints)), (inr (omega (arith, ints), omega (arith, ints)), tt))),
  );
  narrow_claim = omega arith;
  holds = (bits_decided four_weights light lifted_cover).0 refl;
}

pub known_cover : Derives four_weights [] (by_knap (end_of_row Upper) lifted_cover) lifted_cover
unfolding forms_of row_shape gcd gcd_of lowest
known_cover = derives four_weights [] 64 [] [] (knap (end_of_row Upper) lifted_cover ∷ []) lifted_cover (cover_right, tt) (inl refl)

pub too_far : (goal : Ineq) → Derives four_weights [] (by_knap (end_of_row Upper) lifted_too_far) goal → ⊥
unfolding forms_of row_shape gcd gcd_of lowest
too_far goal = refuted four_weights [] (knap (end_of_row Upper) lifted_too_far) [] goal (λ r. omega (arith, ints, r.holds (false ∷ false ∷ false ∷ true ∷ []) refl (omega (arith, ints))))

pub not_its_column : (goal : Ineq) → Derives four_weights [] (by_knap (end_of_first Upper) lifted_cover) goal → ⊥
unfolding forms_of row_shape gcd gcd_of lowest
not_its_column goal = refuted four_weights [] (knap (end_of_first Upper) lifted_cover) [] goal (λ r. no_sign r.signs.1.0)

pub no_from : (goal : Ineq) → Derives four_weights [] (by_knap (by.Step 0) lifted_cover) goal → ⊥
no_from goal = refuted four_weights [] (knap (by.Step 0) lifted_cover) [] goal (λ r. r)

-- ---- over both signs

abbrev both : Ineq
both = ineq ((0, negsuc 2) ∷ (1, negsuc 3) ∷ (2, pos 5) ∷ []) (negsuc 2)

complemented_right : KnapIsRight both_signs both complemented
unfolding holds_at_bits holds_of_all meets_at
complemented_right = record {
  columns = (omega arith, (omega arith, tt));
  binary = ((binary (pos 3), refl, is_binary (pos 3)), ((binary (pos 4), refl, is_binary (pos 4)), ((binary (negsuc 4), refl, is_binary (negsuc 4)), tt)));
  room = omega (arith, ints);
  small = omega arith;
  narrow_from = omega arith;
  signs = (inr (omega (arith, ints), omega (arith, ints)), (inl (omega (arith, ints), omega (arith, ints)), tt));
  narrow_claim = omega arith;
  holds = (bits_decided both_signs both complemented).0 refl;
}

pub known_complemented : Derives both_signs [] (by_knap (end_of_row Upper) complemented) complemented
unfolding forms_of row_shape gcd gcd_of lowest
known_complemented = derives both_signs [] 64 [] [] (knap (end_of_row Upper) complemented ∷ []) complemented (complemented_right, tt) (inl refl)

pub other_sign : (goal : Ineq) → Derives both_signs [] (by_knap (end_of_row Upper) turned) goal → ⊥
unfolding forms_of row_shape gcd gcd_of lowest
other_sign goal = refuted both_signs [] (knap (end_of_row Upper) turned) [] goal (λ r. opposite_signs r.signs.1.0)

-- ---- over enough

abbrev heavy : Ineq
heavy = ineq ((0, pos 3) ∷ (1, pos 4) ∷ (2, pos 5) ∷ []) (pos 4)

one_right : KnapIsRight enough heavy one_of_two
unfolding holds_at_bits holds_of_all meets_at
one_right = record {
  columns = (omega arith, (omega arith, tt));
  binary = ((binary (pos 3), refl, is_binary (pos 3)), ((binary (pos 4), refl, is_binary (pos 4)), ((binary (pos 5), refl, is_binary (pos 5)), tt)));
  room = omega (arith, ints);
  small = omega arith;
  narrow_from = omega arith;
  signs = (inl (omega (arith, ints), omega (arith, ints)), (inl (omega (arith, ints), omega (arith, ints)), tt));
  narrow_claim = omega arith;
  holds = (bits_decided enough heavy one_of_two).0 refl;
}

pub known_enough : Derives enough [] (by_knap (end_of_row Lower) one_of_two) one_of_two
unfolding forms_of row_shape gcd gcd_of lowest
known_enough = derives enough [] 64 [] [] (knap (end_of_row Lower) one_of_two ∷ []) one_of_two (one_right, tt) (inl refl)

-- ---- columns that are not binary

pub not_binary : (goal : Ineq) → Derives one_column [] (by_knap (end_of_row Upper) at_most_one) goal → ⊥
unfolding forms_of row_shape gcd gcd_of lowest
not_binary goal = refuted one_column [] (knap (end_of_row Upper) at_most_one) [] goal (λ r. no_bound r.binary.0)
  where
    none_some : None ≡ Some (whole (pos 1)) → ⊥
    none_some e = cc

    no_bound : IsBinaryAt one_column 0 → ⊥
    no_bound (c, is, b) =
        let same : Some c ≡ Some (column_of true (pos 2)) = sym is in
        let Q : Option Column → Type 0 = λ o. IfSome o (λ d. d.up ≡ Some (whole (pos 1))) in
        none_some (subst Q same b.upper)

-- ---- limits

full_right : KnapIsRight four_weights (at_most (negsuc 49999997)) at_most_one
unfolding holds_at_bits holds_of_all meets_at
full_right = record {
  columns = (omega arith, tt);
  binary = ((binary (pos 2), refl, is_binary (pos 2)), tt);
  room = omega (arith, ints);
  small = omega arith;
  narrow_from = omega arith;
  signs = (inr (omega (arith, ints), omega (arith, ints)), tt);
  narrow_claim = omega arith;
  holds = (bits_decided four_weights (at_most (negsuc 49999997)) at_most_one).0 refl;
}

pub known_full : Derives four_weights (at_most (negsuc 49999997) ∷ []) (by_knap (by.Shared 0) at_most_one) at_most_one
known_full = derives four_weights (at_most (negsuc 49999997) ∷ []) 64 [] [] (knap (by.Shared 0) at_most_one ∷ []) at_most_one (full_right, tt) (inl refl)

pub too_large : (goal : Ineq) → Derives four_weights (at_most (negsuc 49999998) ∷ []) (by_knap (by.Shared 0) at_most_one) goal → ⊥
too_large goal = refuted four_weights (at_most (negsuc 49999998) ∷ []) (knap (by.Shared 0) at_most_one) [] goal (λ r. omega (arith, r.small))

pub no_room : (goal : Ineq) → Derives four_weights (at_least (pos 1) (pos 2) ∷ []) (by_knap (by.Shared 0) (at_least (pos 1) (pos 1))) goal → ⊥
no_room goal = refuted four_weights (at_least (pos 1) (pos 2) ∷ []) (knap (by.Shared 0) (at_least (pos 1) (pos 1))) [] goal (λ r. omega (arith, ints, r.room))

pub wide_from : (goal : Ineq) → Derives four_weights (great_multiple (pos (2 ^ 126)) ∷ []) (by_knap (by.Shared 0) (at_least (pos 1) (pos 1))) goal → ⊥
wide_from goal = refuted four_weights (great_multiple (pos (2 ^ 126)) ∷ []) (knap (by.Shared 0) (at_least (pos 1) (pos 1))) [] goal (λ r. omega (arith, r.narrow_from))

pub wide_claim : (goal : Ineq) → Derives four_weights (at_least (pos 1) (pos 1) ∷ []) (by_knap (by.Shared 0) (great_multiple (pos (2 ^ 126)))) goal → ⊥
wide_claim goal = refuted four_weights (at_least (pos 1) (pos 1) ∷ []) (knap (by.Shared 0) (great_multiple (pos (2 ^ 126)))) [] goal (λ r. omega (arith, r.narrow_claim))
