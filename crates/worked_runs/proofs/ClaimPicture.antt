-- A worked picture: a free frame is claimed, scrubbed in part, and given back with its old stamp.
use Rattle.std.proofs.Common.{◌≡◌, ◌<◌, ℕ, IsTrue, refl, Option, None, List, [], ◌∷◌, arith, inl, inr, zero, suc}
use Rattle.xp_words.specs.Machine.{Machine}
use Rattle.xp_words.specs.declared.place.Place.TheVariants.{Pages, Map, Refs}
use Rattle.xp_words.specs.Places.{is_place, place_at, sizes_of}
use Rattle.xp_words.specs.RefWords.{ref_read}
use Rattle.xp_words.specs.KindWords.{kind_read, kind_fields, has_form}
use Rattle.xp_words.specs.Entries.{demand_of, demand_at}
use Rattle.xp_board.specs.declared.step.Step.{Step}
use Rattle.xp_board.specs.declared.step.Act.{Act}
use Rattle.xp_board.specs.declared.step.Act.TheVariants.{Load, Cas, Store, Add}
use Rattle.xp_board.specs.declared.step.Mark.{Mark}
use Rattle.xp_board.specs.declared.step.StepKind.{StepKind}
use Rattle.xp_board.specs.declared.step.StepKind.TheVariants as steps
use Rattle.xp_board.specs.declared.holdings.Made.{Made}
use Rattle.xp_board.specs.Acts.{left_by}
use Rattle.xp_board.specs.Lists.{times_by, first_by, without_by, changed_by, some_of, first_of, kept_of, with_more, with_fewer}
use Rattle.xp_board.specs.Steps.{some_step, last_since}
use Rattle.xp_board.specs.Hands.{hand, typed_hand}
use Rattle.xp_board.specs.Readings.{owner_of, ref_count}
use Rattle.xp_board.specs.Knowledge.{knows_owner, knows_live, knows_partial}
use Rattle.xp_board.specs.Flushes.{is_past}
use Rattle.xp_board.specs.Settling.{is_settled}
use Rattle.xp_board.specs.Spelling.{IsSpelling}
use Rattle.xp_board.specs.Legal.{LegalMove}
use Rattle.xp_board.specs.After.{hands_of}

abbrev machine : Machine
machine = record { frames = 16; limit = 1000; page_limit = 16 ∷ []; privilege = 0 ∷ []; vcpu_domain = 0 ∷ [] }

abbrev step : ℕ → Act → StepKind → Option Mark → Step
step place act kind mark = record { place = place; act = act; kind = kind; mark = mark }

abbrev made : Step → ℕ → Made
made x found = record { step = x; found = found }

abbrev list0 : List Made
list0 = []

-- the own vCPU runs
abbrev x1 : Step
x1 = step 9 Load steps.Look None

abbrev list1 : List Made
list1 = made x1 0 ∷ list0

-- a page is counted
abbrev x2 : Step
x2 = step 1 (Cas 8 9) steps.Pages None

abbrev list2 : List Made
list2 = made x2 8 ∷ list1

-- frame 3 is free since clock 7
abbrev x3 : Step
x3 = step 1586 Load steps.Look None

abbrev list3 : List Made
list3 = made x3 7 ∷ list2

-- the own vCPU was flushed later
abbrev x4 : Step
x4 = step 8 Load steps.Look None

abbrev list4 : List Made
list4 = made x4 9 ∷ list3

-- frame 3 is taken
abbrev x5 : Step
x5 = step 1586 (Cas 7 9223372036854775808) steps.Ref None

abbrev list5 : List Made
list5 = made x5 7 ∷ list4

-- its bit goes off
abbrev x6 : Step
x6 = step 8281 (Add 18446744073709551608) steps.Hint None

abbrev list6 : List Made
list6 = made x6 8 ∷ list5

-- its first cell is scrubbed
abbrev x7 : Step
x7 = step 1589 (Store 0) steps.Cell None

abbrev list7 : List Made
list7 = made x7 55 ∷ list6

-- its bit is set again
abbrev x8 : Step
x8 = step 8281 (Add 8) steps.Hint None

abbrev list8 : List Made
list8 = made x8 0 ∷ list7

-- it is given back
abbrev x9 : Step
x9 = step 1586 (Store 7) steps.Ref None

abbrev list9 : List Made
list9 = made x9 9223372036854775808 ∷ list8

-- and the page with it
abbrev x10 : Step
x10 = step 1 (Add 18446744073709551615) steps.Pages None

abbrev list10 : List Made
list10 = made x10 9 ∷ list9

-- ---- the hands
after_claim : (hands_of machine 0 list5).claimed ≡ record { frame = 3; stamp = 7; scrubbed = 0; since = 5 } ∷ []
unfolding hands_of left_by times_by first_by without_by changed_by some_of first_of kept_of place_at ref_read kind_read kind_fields has_form demand_of demand_at owner_of ref_count some_step last_since knows_owner knows_live knows_partial is_settled hand typed_hand is_place IsSpelling with_more with_fewer
after_claim = refl

raised : (hands_of machine 0 list5).raised ≡ 3 ∷ []
unfolding hands_of left_by times_by first_by without_by changed_by some_of first_of kept_of place_at ref_read kind_read kind_fields has_form demand_of demand_at owner_of ref_count some_step last_since knows_owner knows_live knows_partial is_settled hand typed_hand is_place IsSpelling with_more with_fewer
raised = refl

credits : (hands_of machine 0 list5).credits ≡ []
unfolding hands_of left_by times_by first_by without_by changed_by some_of first_of kept_of place_at ref_read kind_read kind_fields has_form demand_of demand_at owner_of ref_count some_step last_since knows_owner knows_live knows_partial is_settled hand typed_hand is_place IsSpelling with_more with_fewer
credits = refl

lowered : (hands_of machine 0 list6).raised ≡ []
unfolding hands_of left_by times_by first_by without_by changed_by some_of first_of kept_of place_at ref_read kind_read kind_fields has_form demand_of demand_at owner_of ref_count some_step last_since knows_owner knows_live knows_partial is_settled hand typed_hand is_place IsSpelling with_more with_fewer
lowered = refl

scrubbed : (hands_of machine 0 list7).claimed ≡ record { frame = 3; stamp = 7; scrubbed = 1; since = 5 } ∷ []
unfolding hands_of left_by times_by first_by without_by changed_by some_of first_of kept_of place_at ref_read kind_read kind_fields has_form demand_of demand_at owner_of ref_count some_step last_since knows_owner knows_live knows_partial is_settled hand typed_hand is_place IsSpelling with_more with_fewer
scrubbed = refl

raised_again : (hands_of machine 0 list8).raised ≡ 3 ∷ []
unfolding hands_of left_by times_by first_by without_by changed_by some_of first_of kept_of place_at ref_read kind_read kind_fields has_form demand_of demand_at owner_of ref_count some_step last_since knows_owner knows_live knows_partial is_settled hand typed_hand is_place IsSpelling with_more with_fewer
raised_again = refl

credit_again : (hands_of machine 0 list9).credits ≡ 0 ∷ []
unfolding hands_of left_by times_by first_by without_by changed_by some_of first_of kept_of place_at ref_read kind_read kind_fields has_form demand_of demand_at owner_of ref_count some_step last_since knows_owner knows_live knows_partial is_settled hand typed_hand is_place IsSpelling with_more with_fewer
credit_again = refl

after_all : (hands_of machine 0 list10).credits ≡ []
unfolding hands_of left_by times_by first_by without_by changed_by some_of first_of kept_of place_at ref_read kind_read kind_fields has_form demand_of demand_at owner_of ref_count some_step last_since knows_owner knows_live knows_partial is_settled hand typed_hand is_place IsSpelling with_more with_fewer
after_all = refl

-- ---- the steps
past : (v : ℕ) → v < 1 → IsTrue (is_past (sizes_of machine) 3 7 v list4)
unfolding some_step left_by place_at
past zero b = refl
past (suc v) b = absurd (omega arith)

legal2 : LegalMove machine 0 (hands_of machine 0 list1) (Pages 0) (Cas 8 9) steps.Pages None
unfolding hands_of left_by times_by first_by without_by changed_by some_of first_of kept_of place_at ref_read kind_read kind_fields has_form demand_of demand_at owner_of ref_count some_step last_since knows_owner knows_live knows_partial is_settled hand typed_hand is_place IsSpelling with_more with_fewer
legal2 = record { place = refl; marked = tt; running = λ needs. refl; spelling = omega arith; act = record { more = omega arith } }

legal5 : LegalMove machine 0 (hands_of machine 0 list4) (Refs 3) (Cas 7 9223372036854775808) steps.Ref None
unfolding hands_of left_by times_by first_by without_by changed_by some_of first_of kept_of place_at ref_read kind_read kind_fields has_form demand_of demand_at owner_of ref_count some_step last_since knows_owner knows_live knows_partial is_settled hand typed_hand is_place IsSpelling with_more with_fewer
legal5 =
    record {
      place = refl;
      marked = tt;
      running = λ needs. refl;
      spelling = refl;
      act = record { credit = omega arith; past = record { since = 3; found = refl; past = past }; left = refl };
    }

legal6 : LegalMove machine 0 (hands_of machine 0 list5) (Map 0) (Add 18446744073709551608) steps.Hint None
unfolding hands_of left_by times_by first_by without_by changed_by some_of first_of kept_of place_at ref_read kind_read kind_fields has_form demand_of demand_at owner_of ref_count some_step last_since knows_owner knows_live knows_partial is_settled hand typed_hand is_place IsSpelling with_more with_fewer
legal6 =
    record {
      place = refl;
      marked = tt;
      running = λ needs. refl;
      spelling = omega arith;
      act = inr (record { frame = 3; adds = refl; held = omega arith; raised = omega arith });
    }

legal8 : LegalMove machine 0 (hands_of machine 0 list7) (Map 0) (Add 8) steps.Hint None
unfolding hands_of left_by times_by first_by without_by changed_by some_of first_of kept_of place_at ref_read kind_read kind_fields has_form demand_of demand_at owner_of ref_count some_step last_since knows_owner knows_live knows_partial is_settled hand typed_hand is_place IsSpelling with_more with_fewer
legal8 =
    record {
      place = refl;
      marked = tt;
      running = λ needs. refl;
      spelling = omega arith;
      act = inl (record { frame = 3; adds = refl; held = omega arith; lowered = refl });
    }

legal9 : LegalMove machine 0 (hands_of machine 0 list8) (Refs 3) (Store 7) steps.Ref None
unfolding hands_of left_by times_by first_by without_by changed_by some_of first_of kept_of place_at ref_read kind_read kind_fields has_form demand_of demand_at owner_of ref_count some_step last_since knows_owner knows_live knows_partial is_settled hand typed_hand is_place IsSpelling with_more with_fewer
legal9 = record { place = refl; marked = tt; running = λ needs. refl; spelling = refl; act = record { raised = omega arith; was_found = refl } }
