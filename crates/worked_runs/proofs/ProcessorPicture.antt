-- A worked picture: a vCPU leaves its processor and comes to it again, cold until it has flushed.
use Rattle.std.proofs.Common.{◌≡◌, ℕ, true, false, refl, Option, None, Some, List, [], ◌∷◌, arith, inl, inr}
use Rattle.xp_words.specs.Machine.{Machine}
use Rattle.xp_words.specs.declared.place.Place.TheVariants.{Vcpu}
use Rattle.xp_words.specs.Places.{is_place, place_at, run_of, flushed_of}
use Rattle.xp_words.specs.RefWords.{ref_read}
use Rattle.xp_words.specs.KindWords.{kind_read, kind_fields, has_form}
use Rattle.xp_words.specs.Entries.{demand_of, demand_at}
use Rattle.xp_board.specs.declared.step.Step.{Step}
use Rattle.xp_board.specs.declared.step.Act.{Act}
use Rattle.xp_board.specs.declared.step.Act.TheVariants.{Load, Cas, Store}
use Rattle.xp_board.specs.declared.step.Mark.{Mark}
use Rattle.xp_board.specs.declared.step.StepKind.{StepKind}
use Rattle.xp_board.specs.declared.step.StepKind.TheVariants as steps
use Rattle.xp_board.specs.declared.holdings.Made.{Made}
use Rattle.xp_board.specs.Acts.{left_by}
use Rattle.xp_board.specs.Lists.{times_by, first_by, without_by, changed_by, some_of, first_of, kept_of}
use Rattle.xp_board.specs.Steps.{some_step, last_since}
use Rattle.xp_board.specs.Hands.{hand, typed_hand}
use Rattle.xp_board.specs.Readings.{owner_of, ref_count}
use Rattle.xp_board.specs.Knowledge.{knows_owner, knows_live, knows_partial}
use Rattle.xp_board.specs.Settling.{is_settled}
use Rattle.xp_board.specs.Spelling.{IsSpelling}
use Rattle.xp_board.specs.Legal.{LegalMove}
use Rattle.xp_board.specs.After.{hands_of}

abbrev machine : Machine
machine = record { frames = 16; limit = 1000; page_limit = 16 ∷ (16 ∷ []); privilege = 0 ∷ (0 ∷ []); vcpu_domain = 0 ∷ (0 ∷ (1 ∷ [])) }

abbrev step : ℕ → Act → StepKind → Option Mark → Step
step place act kind mark = record { place = place; act = act; kind = kind; mark = mark }

abbrev made : Step → ℕ → Made
made x found = record { step = x; found = found }

abbrev list0 : List Made
list0 = []

-- the own vCPU runs
abbrev x1 : Step
x1 = step 11 Load steps.Look None

abbrev list1 : List Made
list1 = made x1 0 ∷ list0

-- it leaves its processor
abbrev x2 : Step
x2 = step 11 (Store 2) steps.Run None

abbrev list2 : List Made
list2 = made x2 0 ∷ list1

-- and comes to it again
abbrev x3 : Step
x3 = step 11 (Store 0) steps.Run None

abbrev list3 : List Made
list3 = made x3 2 ∷ list2

-- the clock
abbrev x4 : Step
x4 = step 0 Load steps.Look None

abbrev list4 : List Made
list4 = made x4 20 ∷ list3

-- one up
abbrev x5 : Step
x5 = step 0 (Cas 20 21) steps.Tick None

abbrev list5 : List Made
list5 = made x5 20 ∷ list4

-- flushed
abbrev x6 : Step
x6 = step 10 (Store 21) steps.Ack None

abbrev list6 : List Made
list6 = made x6 9 ∷ list5

-- ---- the hands
off : (hands_of machine 0 list2).run ≡ Some 2
unfolding hands_of left_by times_by first_by without_by changed_by some_of first_of kept_of place_at ref_read kind_read kind_fields has_form demand_of demand_at owner_of ref_count some_step last_since knows_owner knows_live knows_partial is_settled hand typed_hand is_place IsSpelling
off = refl

cold : (hands_of machine 0 list3).cold ≡ true
unfolding hands_of left_by times_by first_by without_by changed_by some_of first_of kept_of place_at ref_read kind_read kind_fields has_form demand_of demand_at owner_of ref_count some_step last_since knows_owner knows_live knows_partial is_settled hand typed_hand is_place IsSpelling
cold = refl

warm : (hands_of machine 0 list6).cold ≡ false
unfolding hands_of left_by times_by first_by without_by changed_by some_of first_of kept_of place_at ref_read kind_read kind_fields has_form demand_of demand_at owner_of ref_count some_step last_since knows_owner knows_live knows_partial is_settled hand typed_hand is_place IsSpelling
warm = refl

-- ---- the steps
legal2 : LegalMove machine 0 (hands_of machine 0 list1) (run_of 0) (Store 2) steps.Run None
unfolding hands_of left_by times_by first_by without_by changed_by some_of first_of kept_of place_at ref_read kind_read kind_fields has_form demand_of demand_at owner_of ref_count some_step last_since knows_owner knows_live knows_partial is_settled hand typed_hand is_place IsSpelling
legal2 =
    record {
      place = refl;
      marked = tt;
      running = λ needs. absurd (cc);
      spelling = (omega arith, refl);
      act = (
        refl,
        refl,
        inr (inl (
          refl,
          record {
            running = refl;
            hand = record {
              refs = refl;
              typed = refl;
              works = refl;
              locks = refl;
              ending = refl;
              claimed = refl;
              raised = refl;
              credits = refl;
              looking = refl;
            };
            landed = refl;
          },
        )),
      );
    }

legal3 : LegalMove machine 0 (hands_of machine 0 list2) (run_of 0) (Store 0) steps.Run None
unfolding hands_of left_by times_by first_by without_by changed_by some_of first_of kept_of place_at ref_read kind_read kind_fields has_form demand_of demand_at owner_of ref_count some_step last_since knows_owner knows_live knows_partial is_settled hand typed_hand is_place IsSpelling
legal3 =
    record {
      place = refl;
      marked = tt;
      running = λ needs. absurd (cc);
      spelling = (omega arith, refl);
      act = (refl, refl, inr (inr (refl, record { off = refl; landed = refl })));
    }

legal6 : LegalMove machine 0 (hands_of machine 0 list5) (flushed_of 0) (Store 21) steps.Ack None
unfolding hands_of left_by times_by first_by without_by changed_by some_of first_of kept_of place_at ref_read kind_read kind_fields has_form demand_of demand_at owner_of ref_count some_step last_since knows_owner knows_live knows_partial is_settled hand typed_hand is_place IsSpelling
legal6 =
    record {
      place = refl;
      marked = tt;
      running = λ needs. absurd (cc);
      spelling = (omega arith, refl);
      act = record { own = refl; word = refl; was_found = refl; warmed = λ c. refl; landed = refl };
    }
