-- A worked picture: a frame changes its type, and the mark goes off once no vCPU can have an old translation.
-- vCPUs 0 and 1 are of domain 0, which owns the frame; vCPU 2 is of domain 1.
use Rattle.std.proofs.Common.{◌≡◌, ℕ, refl, Option, None, Some, List, [], ◌∷◌, arith, inl, inr, zero, suc}
use Rattle.xp_words.specs.Machine.{Machine}
use Rattle.xp_words.specs.declared.place.Place.TheVariants.{Vcpu, Kind}
use Rattle.xp_words.specs.Places.{is_place, place_at, asked_of}
use Rattle.xp_words.specs.RefWords.{ref_read}
use Rattle.xp_words.specs.KindWords.{kind_read, kind_fields, has_form}
use Rattle.xp_words.specs.Entries.{demand_of, demand_at}
use Rattle.xp_board.specs.declared.step.Step.{Step}
use Rattle.xp_board.specs.declared.step.Act.{Act}
use Rattle.xp_board.specs.declared.step.Act.TheVariants.{Load, Cas, Store, Max}
use Rattle.xp_board.specs.declared.step.Mark.{Mark}
use Rattle.xp_board.specs.declared.step.StepKind.{StepKind}
use Rattle.xp_board.specs.declared.step.StepKind.TheVariants as steps
use Rattle.xp_board.specs.declared.holdings.Made.{Made}
use Rattle.xp_board.specs.declared.holdings.Seen.{Seen}
use Rattle.xp_board.specs.declared.holdings.Work.{Work}
use Rattle.xp_board.specs.Acts.{left_by}
use Rattle.xp_board.specs.Lists.{times_by, first_by, without_by, changed_by, some_of, first_of, kept_of}
use Rattle.xp_board.specs.Steps.{some_step, last_since}
use Rattle.xp_board.specs.Hands.{hand, typed_hand}
use Rattle.xp_board.specs.Readings.{owner_of, ref_count}
use Rattle.xp_board.specs.Knowledge.{knows_owner, knows_live, knows_partial}
use Rattle.xp_board.specs.Flushes.{IsPastFlush, PassedOver}
use Rattle.xp_board.specs.Settling.{is_settled}
use Rattle.xp_board.specs.Spelling.{IsSpelling}
use Rattle.xp_board.specs.Legal.{LegalMove}
use Rattle.xp_board.specs.After.{hands_of}

abbrev machine : Machine
machine = record { frames = 16; limit = 1000; page_limit = 16 ∷ (16 ∷ []); privilege = 0 ∷ (0 ∷ []); vcpu_domain = 0 ∷ (0 ∷ (1 ∷ [])) }

abbrev step : ℕ → Act → StepKind → Option Mark → Step
step place act kind mark = record { place = place; act = act; kind = kind; mark = mark }

abbrev made : Step → ℕ → Made
made x found = record { step = x; found = found }

abbrev list0 : List Made
list0 = []

-- the own vCPU runs
abbrev x1 : Step
x1 = step 11 Load steps.Look None

abbrev list1 : List Made
list1 = made x1 0 ∷ list0

-- a reference to frame 5
abbrev x2 : Step
x2 = step 2694 (Cas 9223372039002259457 9223372039002259458) steps.Ref None

abbrev list2 : List Made
list2 = made x2 9223372039002259457 ∷ list1

-- it was writable, dead since clock 7, and becomes a table: marked
abbrev x3 : Step
x3 = step 2695 (Cas 31525197391593479 4855443348258823) steps.Kind None

abbrev list3 : List Made
list3 = made x3 31525197391593479 ∷ list2

-- vCPU 1 runs
abbrev x4 : Step
x4 = step 49 Load steps.Look None

abbrev list4 : List Made
list4 = made x4 0 ∷ list3

-- and was not flushed since
abbrev x5 : Step
x5 = step 48 Load steps.Look None

abbrev list5 : List Made
list5 = made x5 5 ∷ list4

-- so it is asked
abbrev x6 : Step
x6 = step 47 (Max 7) steps.Ask None

abbrev list6 : List Made
list6 = made x6 0 ∷ list5

-- the own vCPU was flushed
abbrev x7 : Step
x7 = step 10 Load steps.Look None

abbrev list7 : List Made
list7 = made x7 9 ∷ list6

-- the domain of vCPU 2 never had privilege over domain 0
abbrev x8 : Step
x8 = step 8361 Load steps.Look None

abbrev list8 : List Made
list8 = made x8 0 ∷ list7

-- vCPU 1 was flushed now
abbrev x9 : Step
x9 = step 48 Load steps.Look None

abbrev list9 : List Made
list9 = made x9 8 ∷ list8

-- the mark goes off
abbrev x10 : Step
x10 = step 2695 (Store 4785074604081152) steps.Kind None

abbrev list10 : List Made
list10 = made x10 4855443348258823 ∷ list9

-- the first entry
abbrev x11 : Step
x11 = step 2697 Load steps.Look None

abbrev list11 : List Made
list11 = made x11 0 ∷ list10

-- ---- the hands
abbrev work5 : ℕ → Option Seen → ℕ → Work
work5 word seen unmarked =
    record { frame = 5; word = word; recorded = 0; fixed = 0; seen = seen; unsettled = None; since = 3; unmarked = unmarked }

after_begin : (hands_of machine 0 list3).works ≡ work5 4855443348258823 None 3 ∷ []
unfolding hands_of left_by times_by first_by without_by changed_by some_of first_of kept_of place_at ref_read kind_read kind_fields has_form demand_of demand_at owner_of ref_count some_step last_since knows_owner knows_live knows_partial is_settled hand typed_hand is_place IsSpelling
after_begin = refl

after_unmark : (hands_of machine 0 list10).works ≡ work5 4785074604081152 None 10 ∷ []
unfolding hands_of left_by times_by first_by without_by changed_by some_of first_of kept_of place_at ref_read kind_read kind_fields has_form demand_of demand_at owner_of ref_count some_step last_since knows_owner knows_live knows_partial is_settled hand typed_hand is_place IsSpelling
after_unmark = refl

after_look : (hands_of machine 0 list11).works ≡ work5 4785074604081152 (Some (record { index = 0; word = 0 })) 10 ∷ []
unfolding hands_of left_by times_by first_by without_by changed_by some_of first_of kept_of place_at ref_read kind_read kind_fields has_form demand_of demand_at owner_of ref_count some_step last_since knows_owner knows_live knows_partial is_settled hand typed_hand is_place IsSpelling
after_look = refl

-- ---- the steps
legal3 : LegalMove machine 0 (hands_of machine 0 list2) (Kind 5) (Cas 31525197391593479 4855443348258823) steps.Kind None
unfolding hands_of left_by times_by first_by without_by changed_by some_of first_of kept_of place_at ref_read kind_read kind_fields has_form demand_of demand_at owner_of ref_count some_step last_since knows_owner knows_live knows_partial is_settled hand typed_hand is_place IsSpelling
legal3 = record { place = refl; marked = tt; running = λ needs. refl; spelling = refl; act = record { dead = refl; wanted = refl; left = refl; in_hand = omega arith } }

legal6 : LegalMove machine 0 (hands_of machine 0 list5) (asked_of 1) (Max 7) steps.Ask None
unfolding hands_of left_by times_by first_by without_by changed_by some_of first_of kept_of place_at ref_read kind_read kind_fields has_form demand_of demand_at owner_of ref_count some_step last_since knows_owner knows_live knows_partial is_settled hand typed_hand is_place IsSpelling
legal6 =
    record {
      place = refl;
      marked = tt;
      running = λ needs. refl;
      spelling = omega arith;
      act = (
        refl,
        record {
          since = 3;
          awaits = inl (record {
            work = work5 4855443348258823 None 3;
            here = refl;
            marked = refl;
            stamped = refl;
            locked = omega arith;
            owner = 0;
            known = refl;
            concerned = inl refl;
          });
          running = refl;
          flushed = refl;
        },
      );
    }

passed_over : PassedOver machine 3 5 2 (hands_of machine 0 list9)
unfolding hands_of left_by times_by first_by without_by changed_by some_of first_of kept_of place_at ref_read kind_read kind_fields has_form demand_of demand_at owner_of ref_count some_step last_since knows_owner knows_live knows_partial is_settled hand typed_hand is_place IsSpelling
passed_over = record { owner = 0; known = refl; other = λ e. omega (arith, e); never = refl }

past : IsPastFlush machine (hands_of machine 0 list9) (work5 4855443348258823 None 3)
unfolding hands_of left_by times_by first_by without_by changed_by some_of first_of kept_of place_at ref_read kind_read kind_fields has_form demand_of demand_at owner_of ref_count some_step last_since knows_owner knows_live knows_partial is_settled hand typed_hand is_place IsSpelling
past zero b = inl refl
past (suc zero) b = inl refl
past (suc (suc zero)) b = inr passed_over
past (suc (suc (suc v))) b = absurd (omega arith)

legal10 : LegalMove machine 0 (hands_of machine 0 list9) (Kind 5) (Store 4785074604081152) steps.Kind None
unfolding hands_of left_by times_by first_by without_by changed_by some_of first_of kept_of place_at ref_read kind_read kind_fields has_form demand_of demand_at owner_of ref_count some_step last_since knows_owner knows_live knows_partial is_settled hand typed_hand is_place IsSpelling
legal10 =
    record { place = refl; marked = tt; running = λ needs. refl; spelling = refl; act = record { work = refl; marked = refl; past = past; left = refl } }
