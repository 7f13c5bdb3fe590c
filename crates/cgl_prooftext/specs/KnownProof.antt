-- Known proofs, and their texts.
use Rattle.std.specs.Prelude.{◌≡◌, pos, negsuc, [], ◌∷◌, codes, map}
use Rattle.cgl_model.specs.declared.linear.Ineq.{Ineq}
use Rattle.cgl_model.specs.declared.places.End.TheVariants.{Lower, Upper}
use Rattle.cgl_model.specs.declared.places.Place.TheVariants.{Row, Bound}
use Rattle.cgl_derive.specs.declared.step.Ref.TheVariants as by
use Rattle.cgl_derive.specs.declared.step.Lin.{Lin}
use Rattle.cgl_derive.specs.declared.step.Step.{Step, roll-Step}
use Rattle.cgl_derive.specs.declared.step.Step.TheOpen as step
use Rattle.cgl_derive.specs.declared.step.Split.{Split, roll-Split}
use Rattle.cgl_derive.specs.declared.step.Derivation.{Derivation, roll-Derivation}
use Rattle.cgl_derive.specs.declared.book.Book.{Book}
use Rattle.cgl_derive.specs.KnownBooks.{shared_book}
use Rattle.cgl_prooftext.specs.ProofText.{book_text, knap_text, proof_text, ref_text, round_text}

-- -x >= -1
abbrev pub known_cut : Ineq
known_cut = record { terms = (0, negsuc 0) ∷ []; rhs = negsuc 0 }

abbrev pub known_lin_left : Lin
known_lin_left = record { refs = (by.Given 0, pos 2) ∷ []; q = pos 2; claim = known_cut }

abbrev pub known_lin_right : Lin
known_lin_right = record { refs = (by.Given 0, pos 2) ∷ (by.Side (Row 0 Upper), pos 2) ∷ []; q = pos 2; claim = known_cut }

abbrev pub one_step : step.Step-F Step Derivation Split → Derivation
one_step s = roll-Derivation (record { steps = roll-Step s ∷ [] })

abbrev pub known_split : Split
known_split = roll-Split (record { p = (0, pos 1) ∷ []; p0 = pos 1; left = one_step (step.Lin known_lin_left); right = one_step (step.Lin known_lin_right); claim = known_cut })

-- 2x <= 3 has x <= 1, by the cases x <= 1 and x >= 2
abbrev pub known_derivation : Derivation
known_derivation = one_step (step.Split known_split)

abbrev pub KnownProof : Type 0
KnownProof =
    proof_text ((known_cut, known_derivation) ∷ []) ≡ codes "cgl-proof 1\ncuts 1\ncut 1 0 -1 >= -1\nsplit 1 0 1 1 1 0 -1 >= -1\nlin 2 1 g0 2 1 0 -1 >= -1\nelse\nlin 2 2 g0 2 r0U 2 1 0 -1 >= -1\ndone\nqed\nend\n"

-- -3a - 3b - 3c >= -5 divided by 3 and rounded
abbrev pub KnownRound : Type 0
KnownRound =
    round_text (record { from = by.Side (Row 1 Upper); g = pos 3; claim = record { terms = (0, negsuc 0) ∷ (1, negsuc 0) ∷ (2, negsuc 0) ∷ []; rhs = negsuc 0 } }) ≡ codes "round 3 r1U 3 0 -1 1 -1 2 -1 >= -1\n"

-- from 3a + 4b - 5c <= 3 over binary columns, -b + c >= 0
abbrev pub KnownKnap : Type 0
KnownKnap = knap_text (record { from = by.Side (Row 0 Upper); claim = record { terms = (1, negsuc 0) ∷ (2, pos 1) ∷ []; rhs = pos 0 } }) ≡ codes "knap r0U 2 1 -1 2 1 >= 0\n"

abbrev pub KnownReferences : Type 0
KnownReferences =
    map ref_text (by.Side (Row 10 Lower) ∷ by.Side (Bound 2 Lower) ∷ by.Side (Bound 0 Upper) ∷ by.Step 7 ∷ by.Given 12 ∷ by.Shared 3 ∷ [])
    ≡ codes "r10L" ∷ codes "c2L" ∷ codes "c0U" ∷ codes "s7" ∷ codes "g12" ∷ codes "m3" ∷ []

-- a division that two cuts take
abbrev pub KnownBook : Type 0
KnownBook =
    book_text shared_book ≡ codes "cgl-proof 2\nlemmas 1\nlemma 3 0 -1 1 -1 2 -1 >= -1\nround 3 r1U 3 0 -1 1 -1 2 -1 >= -1\nqed\ncuts 2\ncut 3 0 -1 1 -1 2 -1 >= -1\nlin 1 1 m0 1 3 0 -1 1 -1 2 -1 >= -1\nqed\ncut 2 0 -1 1 -1 >= -1\nlin 1 1 m0 1 3 0 -1 1 -1 2 -1 >= -1\nlin 1 2 s0 1 c2L 1 2 0 -1 1 -1 >= -1\nqed\nend\n"

abbrev pub empty_book : Book
empty_book = record { shared = []; cuts = [] }

abbrev pub KnownEmptyBook : Type 0
KnownEmptyBook = book_text empty_book ≡ codes "cgl-proof 1\ncuts 0\nend\n"
