-- A worked picture: a table loses its last type count, two of its entries are shed, and a pause puts what is
-- left into the first old word.
use Rattle.std.proofs.Common.{◌≡◌, ℕ, refl, Option, None, Some, List, [], ◌∷◌, arith, inl, inr}
use Rattle.xp_words.specs.Machine.{Machine}
use Rattle.xp_words.specs.declared.place.Place.TheVariants.{Clock, Vcpu, Refs, Kind}
use Rattle.xp_words.specs.Places.{is_place, place_at, old0_of}
use Rattle.xp_words.specs.RefWords.{ref_read}
use Rattle.xp_words.specs.KindWords.{kind_read, kind_fields, has_form}
use Rattle.xp_words.specs.Entries.{demand_of, demand_at}
use Rattle.xp_words.specs.declared.kind.PageType.TheVariants as kinds
use Rattle.xp_board.specs.declared.step.Step.{Step}
use Rattle.xp_board.specs.declared.step.Act.{Act}
use Rattle.xp_board.specs.declared.step.Act.TheVariants.{Load, Cas, Store, Add}
use Rattle.xp_board.specs.declared.step.Mark.{Mark}
use Rattle.xp_board.specs.declared.step.Mark.TheVariants as marks
use Rattle.xp_board.specs.declared.step.StepKind.{StepKind}
use Rattle.xp_board.specs.declared.step.StepKind.TheVariants as steps
use Rattle.xp_board.specs.declared.holdings.Made.{Made}
use Rattle.xp_board.specs.declared.holdings.OwnerFound.TheVariants as owners
use Rattle.xp_board.specs.declared.holdings.Liveness.TheVariants as lives
use Rattle.xp_board.specs.Acts.{left_by}
use Rattle.xp_board.specs.Lists.{times_by, first_by, without_by, changed_by, some_of, first_of, kept_of, with_more, with_fewer}
use Rattle.xp_board.specs.Steps.{some_step, last_since}
use Rattle.xp_board.specs.Hands.{hand, typed_hand}
use Rattle.xp_board.specs.Readings.{owner_of, ref_count}
use Rattle.xp_board.specs.Knowledge.{knows_owner, knows_live, knows_partial}
use Rattle.xp_board.specs.Settling.{is_settled}
use Rattle.xp_board.specs.Spelling.{IsSpelling}
use Rattle.xp_board.specs.Legal.{LegalMove}
use Rattle.xp_board.specs.After.{hands_of}

abbrev machine : Machine
machine = record { frames = 16; limit = 1000; page_limit = 16 ∷ []; privilege = 0 ∷ []; vcpu_domain = 0 ∷ [] }

abbrev step : ℕ → Act → StepKind → Option Mark → Step
step place act kind mark = record { place = place; act = act; kind = kind; mark = mark }

abbrev made : Step → ℕ → Made
made x found = record { step = x; found = found }

abbrev list0 : List Made
list0 = []

-- the own vCPU runs
abbrev x1 : Step
x1 = step 9 Load steps.Look None

abbrev list1 : List Made
list1 = made x1 0 ∷ list0

-- the table is unpinned
abbrev x2 : Step
x2 = step 2617 (Cas 7881299347898369 5629499534213121) steps.Kind None

abbrev list2 : List Made
list2 = made x2 7881299347898369 ∷ list1

-- its last type count is given back
abbrev x3 : Step
x3 = step 2617 (Add 18446744073709551615) steps.Kind None

abbrev list3 : List Made
list3 = made x3 5629499534213121 ∷ list2

-- the last entry: nothing
abbrev x4 : Step
x4 = step 3130 Load steps.Look None

abbrev list4 : List Made
list4 = made x4 0 ∷ list3

-- it is shed, and the one below it loaded: frame 9, read-only
abbrev x5 : Step
x5 = step 3129 Load steps.Look (Some (marks.Shed 5 511))

abbrev list5 : List Made
list5 = made x5 36865 ∷ list4

-- it is shed, and the clock loaded
abbrev x6 : Step
x6 = step 0 Load steps.Look (Some (marks.Shed 5 510))

abbrev list6 : List Made
list6 = made x6 20 ∷ list5

-- the reference to frame 9 is given back
abbrev x7 : Step
x7 = step 4676 (Add 18446744073709551615) steps.Ref None

abbrev list7 : List Made
list7 = made x7 9223372039002259458 ∷ list6

-- a pause: what is left is partial
abbrev x8 : Step
x8 = step 2617 (Store 5101596513927168) steps.Kind None

abbrev list8 : List Made
list8 = made x8 5629499534213120 ∷ list7

-- and goes to the old word
abbrev x9 : Step
x9 = step 5 (Store 6) steps.Context None

abbrev list9 : List Made
list9 = made x9 0 ∷ list8

-- ---- the hands
after_unpin : (hands_of machine 0 list2).typed ≡ record { frame = 5; kind = Some kinds.L1; owner = owners.Since 1; live = lives.Found } ∷ []
unfolding hands_of left_by times_by first_by without_by changed_by some_of first_of kept_of place_at ref_read kind_read kind_fields has_form demand_of demand_at owner_of ref_count some_step last_since knows_owner knows_live knows_partial is_settled hand typed_hand is_place IsSpelling with_more with_fewer
after_unpin = refl

after_drop : (hands_of machine 0 list3).works ≡ record { frame = 5; word = 5629499534213120; recorded = 512; fixed = 0; seen = None; unsettled = None; since = 3; unmarked = 3 } ∷ []
unfolding hands_of left_by times_by first_by without_by changed_by some_of first_of kept_of place_at ref_read kind_read kind_fields has_form demand_of demand_at owner_of ref_count some_step last_since knows_owner knows_live knows_partial is_settled hand typed_hand is_place IsSpelling with_more with_fewer
after_drop = refl

after_shed : (hands_of machine 0 list6).refs ≡ record { frame = 9; owner = owners.Since 5 } ∷ (record { frame = 5; owner = owners.Since 1 } ∷ [])
unfolding hands_of left_by times_by first_by without_by changed_by some_of first_of kept_of place_at ref_read kind_read kind_fields has_form demand_of demand_at owner_of ref_count some_step last_since knows_owner knows_live knows_partial is_settled hand typed_hand is_place IsSpelling with_more with_fewer
after_shed = refl

after_partial : (hands_of machine 0 list8).typed ≡ record { frame = 5; kind = Some kinds.L1; owner = owners.Since 1; live = lives.Since 7 } ∷ []
unfolding hands_of left_by times_by first_by without_by changed_by some_of first_of kept_of place_at ref_read kind_read kind_fields has_form demand_of demand_at owner_of ref_count some_step last_since knows_owner knows_live knows_partial is_settled hand typed_hand is_place IsSpelling with_more with_fewer
after_partial = refl

put_down : (hands_of machine 0 list8).works ≡ []
unfolding hands_of left_by times_by first_by without_by changed_by some_of first_of kept_of place_at ref_read kind_read kind_fields has_form demand_of demand_at owner_of ref_count some_step last_since knows_owner knows_live knows_partial is_settled hand typed_hand is_place IsSpelling with_more with_fewer
put_down = refl

put_away : (hands_of machine 0 list9).typed ≡ []
unfolding hands_of left_by times_by first_by without_by changed_by some_of first_of kept_of place_at ref_read kind_read kind_fields has_form demand_of demand_at owner_of ref_count some_step last_since knows_owner knows_live knows_partial is_settled hand typed_hand is_place IsSpelling with_more with_fewer
put_away = refl

old_word : (hands_of machine 0 list9).old0 ≡ Some 6
unfolding hands_of left_by times_by first_by without_by changed_by some_of first_of kept_of place_at ref_read kind_read kind_fields has_form demand_of demand_at owner_of ref_count some_step last_since knows_owner knows_live knows_partial is_settled hand typed_hand is_place IsSpelling with_more with_fewer
old_word = refl

-- ---- the steps
legal3 : LegalMove machine 0 (hands_of machine 0 list2) (Kind 5) (Add 18446744073709551615) steps.Kind None
unfolding hands_of left_by times_by first_by without_by changed_by some_of first_of kept_of place_at ref_read kind_read kind_fields has_form demand_of demand_at owner_of ref_count some_step last_since knows_owner knows_live knows_partial is_settled hand typed_hand is_place IsSpelling with_more with_fewer
legal3 =
    record {
      place = refl;
      marked = tt;
      running = λ needs. refl;
      spelling = omega arith;
      act = inl (refl, record { in_hand = omega arith; kind = kinds.L1; live = refl });
    }

legal6 : LegalMove machine 0 (hands_of machine 0 list5) Clock Load steps.Look (Some (marks.Shed 5 510))
unfolding hands_of left_by times_by first_by without_by changed_by some_of first_of kept_of place_at ref_read kind_read kind_fields has_form demand_of demand_at owner_of ref_count some_step last_since knows_owner knows_live knows_partial is_settled hand typed_hand is_place IsSpelling with_more with_fewer
legal6 =
    record {
      place = refl;
      marked = (_, record { here = refl; table = refl; last = refl; word = 36865; seen = refl });
      running = λ needs. absurd (cc);
      spelling = tt;
      act = tt;
    }

legal7 : LegalMove machine 0 (hands_of machine 0 list6) (Refs 9) (Add 18446744073709551615) steps.Ref None
unfolding hands_of left_by times_by first_by without_by changed_by some_of first_of kept_of place_at ref_read kind_read kind_fields has_form demand_of demand_at owner_of ref_count some_step last_since knows_owner knows_live knows_partial is_settled hand typed_hand is_place IsSpelling with_more with_fewer
legal7 =
    record {
      place = refl;
      marked = tt;
      running = λ needs. refl;
      spelling = omega arith;
      act = record { one = refl; in_hand = omega arith; spares = λ c. absurd (cc) };
    }

legal8 : LegalMove machine 0 (hands_of machine 0 list7) (Kind 5) (Store 5101596513927168) steps.Kind None
unfolding hands_of left_by times_by first_by without_by changed_by some_of first_of kept_of place_at ref_read kind_read kind_fields has_form demand_of demand_at owner_of ref_count some_step last_since knows_owner knows_live knows_partial is_settled hand typed_hand is_place IsSpelling with_more with_fewer
legal8 =
    record {
      place = refl;
      marked = tt;
      running = λ needs. refl;
      spelling = refl;
      act = record {
        kind = refl;
        progress = refl;
        mark = inl (refl, λ e. absurd (cc));
        kept = λ e. absurd (cc);
        closing = λ c. omega arith;
      };
    }

legal9 : LegalMove machine 0 (hands_of machine 0 list8) (old0_of 0) (Store 6) steps.Context None
unfolding hands_of left_by times_by first_by without_by changed_by some_of first_of kept_of place_at ref_read kind_read kind_fields has_form demand_of demand_at owner_of ref_count some_step last_since knows_owner knows_live knows_partial is_settled hand typed_hand is_place IsSpelling with_more with_fewer
legal9 =
    record {
      place = refl;
      marked = tt;
      running = λ needs. refl;
      spelling = (omega arith, refl);
      act = inl (record { own = refl; word = refl; names = inr (record { frame = 5; names = refl; in_hand = omega arith; fits = tt }) });
    }
