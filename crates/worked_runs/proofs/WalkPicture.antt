-- A worked picture: a walk for a write sets accessed and dirty bits and ends in a translation of page 262146
-- (entries 0, 1, 0, 2), through which the guest then writes.
use Rattle.std.proofs.Common.{◌≡◌, ℕ, true, false, refl, Option, None, Some, List, [], ◌∷◌, arith}
use Rattle.xp_words.specs.Machine.{Machine}
use Rattle.xp_words.specs.declared.place.Place.TheVariants.{Vcpu, Cell}
use Rattle.xp_words.specs.Places.{is_place, place_at, base_of}
use Rattle.xp_words.specs.RefWords.{ref_read}
use Rattle.xp_words.specs.KindWords.{kind_read, kind_fields, has_form}
use Rattle.xp_words.specs.Entries.{demand_of, demand_at}
use Rattle.xp_board.specs.declared.step.Step.{Step}
use Rattle.xp_board.specs.declared.step.Act.{Act}
use Rattle.xp_board.specs.declared.step.Act.TheVariants.{Load, Cas, Store}
use Rattle.xp_board.specs.declared.step.Mark.{Mark}
use Rattle.xp_board.specs.declared.step.Mark.TheVariants as marks
use Rattle.xp_board.specs.declared.step.StepKind.{StepKind}
use Rattle.xp_board.specs.declared.step.StepKind.TheVariants as steps
use Rattle.xp_board.specs.declared.holdings.Made.{Made}
use Rattle.xp_board.specs.Acts.{left_by}
use Rattle.xp_board.specs.Lists.{times_by, first_by, without_by, changed_by, some_of, first_of, kept_of}
use Rattle.xp_board.specs.Steps.{some_step, last_since}
use Rattle.xp_board.specs.Hands.{hand, typed_hand}
use Rattle.xp_board.specs.Readings.{owner_of, ref_count}
use Rattle.xp_board.specs.Knowledge.{knows_owner, knows_live, knows_partial}
use Rattle.xp_board.specs.Settling.{is_settled}
use Rattle.xp_board.specs.Spelling.{IsSpelling}
use Rattle.xp_board.specs.Legal.{LegalMove}
use Rattle.xp_board.specs.After.{hands_of}

abbrev machine : Machine
machine = record { frames = 16; limit = 1000; page_limit = 16 ∷ []; privilege = 0 ∷ []; vcpu_domain = 0 ∷ [] }

abbrev step : ℕ → Act → StepKind → Option Mark → Step
step place act kind mark = record { place = place; act = act; kind = kind; mark = mark }

abbrev made : Step → ℕ → Made
made x found = record { step = x; found = found }

abbrev list0 : List Made
list0 = []

-- the own vCPU runs
abbrev x1 : Step
x1 = step 9 Load steps.Look None

abbrev list1 : List Made
list1 = made x1 0 ∷ list0

-- the base: top table 1
abbrev x2 : Step
x2 = step 3 Load steps.Fill (Some (marks.Walk true))

abbrev list2 : List Made
list2 = made x2 2 ∷ list1

-- level 4, entry 0: table 2, not accessed yet
abbrev x3 : Step
x3 = step 559 Load steps.Fill None

abbrev list3 : List Made
list3 = made x3 8195 ∷ list2

-- its accessed bit
abbrev x4 : Step
x4 = step 559 (Cas 8195 8227) steps.Touch None

abbrev list4 : List Made
list4 = made x4 8195 ∷ list3

-- level 3, entry 1: table 3, accessed
abbrev x5 : Step
x5 = step 1075 Load steps.Fill None

abbrev list5 : List Made
list5 = made x5 12323 ∷ list4

-- level 2, entry 0: table 4, accessed
abbrev x6 : Step
x6 = step 1589 Load steps.Fill None

abbrev list6 : List Made
list6 = made x6 16419 ∷ list5

-- level 1, entry 2: frame 9, not dirty yet
abbrev x7 : Step
x7 = step 2106 Load steps.Fill None

abbrev list7 : List Made
list7 = made x7 36899 ∷ list6

-- its dirty bit
abbrev x8 : Step
x8 = step 2106 (Cas 36899 36963) steps.Touch None

abbrev list8 : List Made
list8 = made x8 36899 ∷ list7

-- the guest writes
abbrev x9 : Step
x9 = step 4686 (Store 119) steps.Guest None

abbrev list9 : List Made
list9 = made x9 0 ∷ list8

-- ---- the hands
after_touch : (hands_of machine 0 list4).walk ≡ Some (record { user = false; write = true; writable = true; page = 0; reached = record { table = 2; level = 3 } ∷ (record { table = 1; level = 4 } ∷ []); touching = None })
unfolding hands_of left_by times_by first_by without_by changed_by some_of first_of kept_of place_at ref_read kind_read kind_fields has_form demand_of demand_at owner_of ref_count some_step last_since knows_owner knows_live knows_partial is_settled hand typed_hand is_place IsSpelling
after_touch = refl

after_last : (hands_of machine 0 list7).cache ≡ []
unfolding hands_of left_by times_by first_by without_by changed_by some_of first_of kept_of place_at ref_read kind_read kind_fields has_form demand_of demand_at owner_of ref_count some_step last_since knows_owner knows_live knows_partial is_settled hand typed_hand is_place IsSpelling
after_last = refl

after_walk : (hands_of machine 0 list8).cache ≡ record { user = false; page = 262146; frame = 9; writable = true; dirty = true } ∷ []
unfolding hands_of left_by times_by first_by without_by changed_by some_of first_of kept_of place_at ref_read kind_read kind_fields has_form demand_of demand_at owner_of ref_count some_step last_since knows_owner knows_live knows_partial is_settled hand typed_hand is_place IsSpelling
after_walk = refl

landed : (hands_of machine 0 list8).walk ≡ None
unfolding hands_of left_by times_by first_by without_by changed_by some_of first_of kept_of place_at ref_read kind_read kind_fields has_form demand_of demand_at owner_of ref_count some_step last_since knows_owner knows_live knows_partial is_settled hand typed_hand is_place IsSpelling
landed = refl

-- ---- the steps
legal2 : LegalMove machine 0 (hands_of machine 0 list1) (base_of 0) Load steps.Fill (Some (marks.Walk true))
unfolding hands_of left_by times_by first_by without_by changed_by some_of first_of kept_of place_at ref_read kind_read kind_fields has_form demand_of demand_at owner_of ref_count some_step last_since knows_owner knows_live knows_partial is_settled hand typed_hand is_place IsSpelling
legal2 = record { place = refl; marked = tt; running = λ needs. refl; spelling = tt; act = (record { own = refl; word = refl; none = refl; warm = refl }, tt) }

legal3 : LegalMove machine 0 (hands_of machine 0 list2) (Cell 1 0) Load steps.Fill None
unfolding hands_of left_by times_by first_by without_by changed_by some_of first_of kept_of place_at ref_read kind_read kind_fields has_form demand_of demand_at owner_of ref_count some_step last_since knows_owner knows_live knows_partial is_settled hand typed_hand is_place IsSpelling
legal3 =
    record {
      place = refl;
      marked = tt;
      running = λ needs. refl;
      spelling = tt;
      act = ((_, record { flying = refl; touched = refl; level = 4; above = []; reached = refl; walked = refl; warm = refl }), tt);
    }

legal8 : LegalMove machine 0 (hands_of machine 0 list7) (Cell 4 2) (Cas 36899 36963) steps.Touch None
unfolding hands_of left_by times_by first_by without_by changed_by some_of first_of kept_of place_at ref_read kind_read kind_fields has_form demand_of demand_at owner_of ref_count some_step last_since knows_owner knows_live knows_partial is_settled hand typed_hand is_place IsSpelling
legal8 =
    record {
      place = refl;
      marked = tt;
      running = λ needs. refl;
      spelling = omega arith;
      act = (_, record { flying = refl; needed = refl; left = refl });
    }

legal9 : LegalMove machine 0 (hands_of machine 0 list8) (Cell 9 7) (Store 119) steps.Guest None
unfolding hands_of left_by times_by first_by without_by changed_by some_of first_of kept_of place_at ref_read kind_read kind_fields has_form demand_of demand_at owner_of ref_count some_step last_since knows_owner knows_live knows_partial is_settled hand typed_hand is_place IsSpelling
legal9 = record { place = refl; marked = tt; running = λ needs. refl; spelling = omega arith; act = record { item = refl; warm = refl } }
