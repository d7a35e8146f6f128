-- A worked picture: a vCPU sets `kept` on a frame of another domain, looks whether that domain lives, and takes
-- the mark back.
use Rattle.std.proofs.Common.{◌≡◌, ℕ, true, refl, Option, None, Some, List, [], ◌∷◌, arith, inl}
use Rattle.xp_words.specs.Machine.{Machine}
use Rattle.xp_words.specs.declared.place.Place.TheVariants.{Kind}
use Rattle.xp_words.specs.Places.{is_place, place_at, sizes_of}
use Rattle.xp_words.specs.RefWords.{ref_read}
use Rattle.xp_words.specs.KindWords.{kind_read, kind_fields, has_form}
use Rattle.xp_words.specs.Entries.{demand_of, demand_at}
use Rattle.xp_words.specs.declared.kind.PageType.TheVariants as kinds
use Rattle.xp_board.specs.declared.step.Step.{Step}
use Rattle.xp_board.specs.declared.step.Act.{Act}
use Rattle.xp_board.specs.declared.step.Act.TheVariants.{Load, Cas, Store}
use Rattle.xp_board.specs.declared.step.Mark.{Mark}
use Rattle.xp_board.specs.declared.step.StepKind.{StepKind}
use Rattle.xp_board.specs.declared.step.StepKind.TheVariants as steps
use Rattle.xp_board.specs.declared.holdings.Made.{Made}
use Rattle.xp_board.specs.declared.holdings.OwnerFound.TheVariants as owners
use Rattle.xp_board.specs.declared.holdings.Liveness.TheVariants as lives
use Rattle.xp_board.specs.Acts.{left_by}
use Rattle.xp_board.specs.Lists.{times_by, first_by, without_by, changed_by, some_of, first_of, kept_of}
use Rattle.xp_board.specs.Steps.{some_step, last_since}
use Rattle.xp_board.specs.Hands.{hand, typed_hand}
use Rattle.xp_board.specs.Readings.{owner_of, ref_count}
use Rattle.xp_board.specs.Knowledge.{knows_owner, knows_live, knows_partial}
use Rattle.xp_board.specs.Settling.{is_settled}
use Rattle.xp_board.specs.Spelling.{IsSpelling}
use Rattle.xp_board.specs.Legal.{LegalMove}
use Rattle.xp_board.specs.After.{hands_of}

abbrev machine : Machine
machine = record { frames = 16; limit = 1000; page_limit = 16 ∷ (16 ∷ []); privilege = 0 ∷ (0 ∷ []); vcpu_domain = 0 ∷ (0 ∷ (1 ∷ [])) }

abbrev step : ℕ → Act → StepKind → Option Mark → Step
step place act kind mark = record { place = place; act = act; kind = kind; mark = mark }

abbrev made : Step → ℕ → Made
made x found = record { step = x; found = found }

abbrev list0 : List Made
list0 = []

-- the own vCPU runs
abbrev x1 : Step
x1 = step 11 Load steps.Look None

abbrev list1 : List Made
list1 = made x1 0 ∷ list0

-- a reference to frame 5 of domain 1
abbrev x2 : Step
x2 = step 2694 (Cas 9223372043297226753 9223372043297226754) steps.Ref None

abbrev list2 : List Made
list2 = made x2 9223372043297226753 ∷ list1

-- it comes into work as a table
abbrev x3 : Step
x3 = step 2695 (Cas 0 4785074604081152) steps.Kind None

abbrev list3 : List Made
list3 = made x3 0 ∷ list2

-- a pause: its type count goes into the kept mark
abbrev x4 : Step
x4 = step 2695 (Store 5207287069147136) steps.Kind None

abbrev list4 : List Made
list4 = made x4 4785074604081152 ∷ list3

-- domain 1 is dying: vCPU 1 destroys it
abbrev x5 : Step
x5 = step 4 Load steps.Look None

abbrev list5 : List Made
list5 = made x5 2 ∷ list4

-- the mark is taken back
abbrev x6 : Step
x6 = step 2695 (Cas 5207287069147136 5066549580791808) steps.Kind None

abbrev list6 : List Made
list6 = made x6 5207287069147136 ∷ list5

-- ---- the hands
after_keep : (hands_of machine 0 list4).looking ≡ record { frame = 5; owner = 1; word = 5207287069147136 } ∷ []
unfolding hands_of left_by times_by first_by without_by changed_by some_of first_of kept_of place_at ref_read kind_read kind_fields has_form demand_of demand_at owner_of ref_count some_step last_since knows_owner knows_live knows_partial is_settled hand typed_hand is_place IsSpelling
after_keep = refl

none_typed : (hands_of machine 0 list4).typed ≡ []
unfolding hands_of left_by times_by first_by without_by changed_by some_of first_of kept_of place_at ref_read kind_read kind_fields has_form demand_of demand_at owner_of ref_count some_step last_since knows_owner knows_live knows_partial is_settled hand typed_hand is_place IsSpelling
none_typed = refl

still_looking : (hands_of machine 0 list5).looking ≡ record { frame = 5; owner = 1; word = 5207287069147136 } ∷ []
unfolding hands_of left_by times_by first_by without_by changed_by some_of first_of kept_of place_at ref_read kind_read kind_fields has_form demand_of demand_at owner_of ref_count some_step last_since knows_owner knows_live knows_partial is_settled hand typed_hand is_place IsSpelling
still_looking = refl

looked : (hands_of machine 0 (made x5 0 ∷ list4)).looking ≡ []
unfolding hands_of left_by times_by first_by without_by changed_by some_of first_of kept_of place_at ref_read kind_read kind_fields has_form demand_of demand_at owner_of ref_count some_step last_since knows_owner knows_live knows_partial is_settled hand typed_hand is_place IsSpelling
looked = refl

taken_back : (hands_of machine 0 list6).looking ≡ []
unfolding hands_of left_by times_by first_by without_by changed_by some_of first_of kept_of place_at ref_read kind_read kind_fields has_form demand_of demand_at owner_of ref_count some_step last_since knows_owner knows_live knows_partial is_settled hand typed_hand is_place IsSpelling
taken_back = refl

typed_again : (hands_of machine 0 list6).typed ≡ record { frame = 5; kind = Some kinds.L1; owner = owners.Since 5; live = lives.Since 5 } ∷ []
unfolding hands_of left_by times_by first_by without_by changed_by some_of first_of kept_of place_at ref_read kind_read kind_fields has_form demand_of demand_at owner_of ref_count some_step last_since knows_owner knows_live knows_partial is_settled hand typed_hand is_place IsSpelling
typed_again = refl

known_partial : knows_partial (sizes_of machine) 5 kinds.L1 (hands_of machine 0 list6) ≡ true
unfolding hands_of left_by times_by first_by without_by changed_by some_of first_of kept_of place_at ref_read kind_read kind_fields has_form demand_of demand_at owner_of ref_count some_step last_since knows_owner knows_live knows_partial is_settled hand typed_hand is_place IsSpelling
known_partial = refl

-- ---- the steps
legal4 : LegalMove machine 0 (hands_of machine 0 list3) (Kind 5) (Store 5207287069147136) steps.Kind None
unfolding hands_of left_by times_by first_by without_by changed_by some_of first_of kept_of place_at ref_read kind_read kind_fields has_form demand_of demand_at owner_of ref_count some_step last_since knows_owner knows_live knows_partial is_settled hand typed_hand is_place IsSpelling
legal4 =
    record {
      place = refl;
      marked = tt;
      running = λ needs. refl;
      spelling = refl;
      act = record {
        kind = refl;
        progress = refl;
        mark = inl (refl, λ e. absurd (cc));
        kept = λ e. record { in_hand = λ w. omega arith; owner = 1; known = refl };
        closing = λ c. absurd (cc);
      };
    }

legal6 : LegalMove machine 0 (hands_of machine 0 list5) (Kind 5) (Cas 5207287069147136 5066549580791808) steps.Kind None
unfolding hands_of left_by times_by first_by without_by changed_by some_of first_of kept_of place_at ref_read kind_read kind_fields has_form demand_of demand_at owner_of ref_count some_step last_since knows_owner knows_live knows_partial is_settled hand typed_hand is_place IsSpelling
legal6 = record { place = refl; marked = tt; running = λ needs. refl; spelling = refl; act = record { partial = refl; kept = refl; left = refl } }
