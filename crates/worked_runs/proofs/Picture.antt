-- A worked picture: the first entry of a level 1 table, frame 5, is validated, with a writable frame 9 below
-- it; then the work is put down with the `kept` mark. Each step is legal, and leaves the hand that it should.
use Rattle.std.proofs.Common.{◌≡◌, ℕ, refl, Option, None, Some, List, [], ◌∷◌, arith, inl}
use Rattle.xp_words.specs.Machine.{Machine}
use Rattle.xp_words.specs.declared.place.Place.TheVariants.{Refs, Kind, Cell}
use Rattle.xp_words.specs.Places.{is_place, place_at}
use Rattle.xp_words.specs.RefWords.{ref_read}
use Rattle.xp_words.specs.KindWords.{kind_read, kind_fields, has_form}
use Rattle.xp_words.specs.Entries.{demand_of, demand_at}
use Rattle.xp_words.specs.declared.kind.PageType.TheVariants as kinds
use Rattle.xp_board.specs.declared.step.Step.{Step}
use Rattle.xp_board.specs.declared.step.Act.{Act}
use Rattle.xp_board.specs.declared.step.Act.TheVariants.{Load, Cas, Store}
use Rattle.xp_board.specs.declared.step.Mark.{Mark}
use Rattle.xp_board.specs.declared.step.Mark.TheVariants as marks
use Rattle.xp_board.specs.declared.step.StepKind.{StepKind}
use Rattle.xp_board.specs.declared.step.StepKind.TheVariants as steps
use Rattle.xp_board.specs.declared.holdings.Made.{Made}
use Rattle.xp_board.specs.declared.holdings.OwnerFound.TheVariants as owners
use Rattle.xp_board.specs.declared.holdings.Liveness.TheVariants as lives
use Rattle.xp_board.specs.Acts.{left_by}
use Rattle.xp_board.specs.Lists.{times_by, first_by, without_by, changed_by, some_of, first_of, kept_of}
use Rattle.xp_board.specs.Steps.{some_step, last_since}
use Rattle.xp_board.specs.Hands.{hand, typed_hand}
use Rattle.xp_board.specs.Readings.{owner_of, ref_count}
use Rattle.xp_board.specs.Knowledge.{knows_owner, knows_live, knows_partial}
use Rattle.xp_board.specs.Settling.{is_settled}
use Rattle.xp_board.specs.Spelling.{IsSpelling}
use Rattle.xp_board.specs.Legal.{LegalMove}
use Rattle.xp_board.specs.After.{hands_of}

abbrev machine : Machine
machine = record { frames = 16; limit = 1000; page_limit = 16 ∷ []; privilege = 0 ∷ []; vcpu_domain = 0 ∷ [] }

abbrev step : ℕ → Act → StepKind → Option Mark → Step
step place act kind mark = record { place = place; act = act; kind = kind; mark = mark }

abbrev made : Step → ℕ → Made
made x found = record { step = x; found = found }

abbrev list0 : List Made
list0 = []

-- Look own run word
abbrev x1 : Step
x1 = step 9 Load steps.Look None

abbrev list1 : List Made
list1 = made x1 0 ∷ list0

-- refs5
abbrev x2 : Step
x2 = step 2616 Load steps.Look None

abbrev list2 : List Made
list2 = made x2 9223372039002259457 ∷ list1

-- up5
abbrev x3 : Step
x3 = step 2616 (Cas 9223372039002259457 9223372039002259458) steps.Ref None

abbrev list3 : List Made
list3 = made x3 9223372039002259457 ∷ list2

-- begin5
abbrev x4 : Step
x4 = step 2617 (Cas 0 4785074604081152) steps.Kind None

abbrev list4 : List Made
list4 = made x4 0 ∷ list3

-- cell
abbrev x5 : Step
x5 = step 2619 Load steps.Look None

abbrev list5 : List Made
list5 = made x5 36867 ∷ list4

-- up9
abbrev x6 : Step
x6 = step 4676 (Cas 9223372039002259457 9223372039002259458) steps.Ref None

abbrev list6 : List Made
list6 = made x6 9223372039002259457 ∷ list5

-- begin9
abbrev x7 : Step
x7 = step 4677 (Cas 0 31806672368304128) steps.Kind None

abbrev list7 : List Made
list7 = made x7 0 ∷ list6

-- live9
abbrev x8 : Step
x8 = step 4677 (Store 32651097298436097) steps.Kind None

abbrev list8 : List Made
list8 = made x8 31806672368304128 ∷ list7

-- next cell, record
abbrev x9 : Step
x9 = step 2620 Load steps.Look (Some (marks.Record 5 1))

abbrev list9 : List Made
list9 = made x9 0 ∷ list8

-- park5
abbrev x10 : Step
x10 = step 2617 (Store 5207355788623872) steps.Kind None

abbrev list10 : List Made
list10 = made x10 4785074604081152 ∷ list9

-- ---- the hands
after_begin : (hands_of machine 0 list4).refs ≡ []
unfolding hands_of left_by times_by first_by without_by changed_by some_of first_of kept_of place_at ref_read kind_read kind_fields has_form demand_of demand_at owner_of ref_count some_step last_since knows_owner knows_live knows_partial is_settled hand typed_hand is_place IsSpelling
after_begin = refl

after_record : (hands_of machine 0 list9).typed ≡ record { frame = 5; kind = Some kinds.L1; owner = owners.Of 0; live = lives.Since 3 } ∷ []
unfolding hands_of left_by times_by first_by without_by changed_by some_of first_of kept_of place_at ref_read kind_read kind_fields has_form demand_of demand_at owner_of ref_count some_step last_since knows_owner knows_live knows_partial is_settled hand typed_hand is_place IsSpelling
after_record = refl

after_park : (hands_of machine 0 list10).typed ≡ []
unfolding hands_of left_by times_by first_by without_by changed_by some_of first_of kept_of place_at ref_read kind_read kind_fields has_form demand_of demand_at owner_of ref_count some_step last_since knows_owner knows_live knows_partial is_settled hand typed_hand is_place IsSpelling
after_park = refl

-- ---- the steps
legal3 : LegalMove machine 0 (hands_of machine 0 list2) (Refs 5) (Cas 9223372039002259457 9223372039002259458) steps.Ref None
unfolding hands_of left_by times_by first_by without_by changed_by some_of first_of kept_of place_at ref_read kind_read kind_fields has_form demand_of demand_at owner_of ref_count some_step last_since knows_owner knows_live knows_partial is_settled hand typed_hand is_place IsSpelling
legal3 = record { place = refl; marked = tt; running = λ needs. refl; spelling = refl; act = inl (record { below = omega arith; left = refl }) }

legal4 : LegalMove machine 0 (hands_of machine 0 list3) (Kind 5) (Cas 0 4785074604081152) steps.Kind None
unfolding hands_of left_by times_by first_by without_by changed_by some_of first_of kept_of place_at ref_read kind_read kind_fields has_form demand_of demand_at owner_of ref_count some_step last_since knows_owner knows_live knows_partial is_settled hand typed_hand is_place IsSpelling
legal4 = record { place = refl; marked = tt; running = λ needs. refl; spelling = refl; act = record { dead = refl; wanted = refl; left = refl; in_hand = omega arith } }

legal8 : LegalMove machine 0 (hands_of machine 0 list7) (Kind 9) (Store 32651097298436097) steps.Kind None
unfolding hands_of left_by times_by first_by without_by changed_by some_of first_of kept_of place_at ref_read kind_read kind_fields has_form demand_of demand_at owner_of ref_count some_step last_since knows_owner knows_live knows_partial is_settled hand typed_hand is_place IsSpelling
legal8 =
    record {
      place = refl;
      marked = tt;
      running = λ needs. refl;
      spelling = refl;
      act = record {
        work = refl;
        kind = refl;
        unpinned = refl;
        unlocked = refl;
        past = λ e. absurd (cc);
        table = λ t. absurd (cc);
        descriptors = λ d. absurd (cc);
        counts = inl (refl, omega arith);
      };
    }

legal9 : LegalMove machine 0 (hands_of machine 0 list8) (Cell 5 1) Load steps.Look (Some (marks.Record 5 1))
unfolding hands_of left_by times_by first_by without_by changed_by some_of first_of kept_of place_at ref_read kind_read kind_fields has_form demand_of demand_at owner_of ref_count some_step last_since knows_owner knows_live knows_partial is_settled hand typed_hand is_place IsSpelling
legal9 =
    record {
      place = refl;
      marked = (
        _,
        record {
          here = refl;
          table = refl;
          unmarked = refl;
          next = refl;
          inside = omega arith;
          settled = refl;
          word = 36867;
          seen = refl;
          in_hand = (
            record { in_hand = omega arith; owners = record { table = 0; frame = 0; table_known = refl; frame_known = refl; meet = inl refl } },
            inl refl,
          );
        },
      );
      running = λ needs. absurd (cc);
      spelling = tt;
      act = tt;
    }

legal10 : LegalMove machine 0 (hands_of machine 0 list9) (Kind 5) (Store 5207355788623872) steps.Kind None
unfolding hands_of left_by times_by first_by without_by changed_by some_of first_of kept_of place_at ref_read kind_read kind_fields has_form demand_of demand_at owner_of ref_count some_step last_since knows_owner knows_live knows_partial is_settled hand typed_hand is_place IsSpelling
legal10 =
    record {
      place = refl;
      marked = tt;
      running = λ needs. refl;
      spelling = refl;
      act = record {
        kind = refl;
        progress = refl;
        mark = inl (refl, λ e. absurd (cc));
        kept = λ e. record { in_hand = λ w. omega arith; owner = 0; known = refl };
        closing = λ c. absurd (cc);
      };
    }
