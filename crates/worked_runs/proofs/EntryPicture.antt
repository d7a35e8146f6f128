-- A worked picture: an entry of a live table, frame 5, that leads to the writable frame 9 is exchanged under
-- the entry lock, first for one that asks the same, then for none.
use Rattle.std.proofs.Common.{◌≡◌, ℕ, refl, Option, None, Some, List, [], ◌∷◌, arith, inl, inr}
use Rattle.xp_words.specs.Machine.{Machine}
use Rattle.xp_words.specs.declared.place.Place.TheVariants.{Kind, Cell}
use Rattle.xp_words.specs.Places.{is_place, place_at}
use Rattle.xp_words.specs.RefWords.{ref_read}
use Rattle.xp_words.specs.KindWords.{kind_read, kind_fields, has_form}
use Rattle.xp_words.specs.Entries.{demand_of, demand_at}
use Rattle.xp_words.specs.declared.kind.PageType.TheVariants as kinds
use Rattle.xp_board.specs.declared.step.Step.{Step}
use Rattle.xp_board.specs.declared.step.Act.{Act}
use Rattle.xp_board.specs.declared.step.Act.TheVariants.{Load, Cas, Store, Add}
use Rattle.xp_board.specs.declared.step.Mark.{Mark}
use Rattle.xp_board.specs.declared.step.StepKind.{StepKind}
use Rattle.xp_board.specs.declared.step.StepKind.TheVariants as steps
use Rattle.xp_board.specs.declared.holdings.Made.{Made}
use Rattle.xp_board.specs.declared.holdings.TypedReference.{TypedReference}
use Rattle.xp_board.specs.declared.holdings.OwnerFound.TheVariants as owners
use Rattle.xp_board.specs.declared.holdings.Liveness.TheVariants as lives
use Rattle.xp_board.specs.Acts.{left_by}
use Rattle.xp_board.specs.Lists.{times_by, first_by, without_by, changed_by, some_of, first_of, kept_of}
use Rattle.xp_board.specs.Steps.{some_step, last_since}
use Rattle.xp_board.specs.Hands.{hand, typed_hand}
use Rattle.xp_board.specs.Readings.{owner_of, ref_count}
use Rattle.xp_board.specs.Knowledge.{knows_owner, knows_live, knows_partial}
use Rattle.xp_board.specs.Settling.{is_settled}
use Rattle.xp_board.specs.Spelling.{IsSpelling}
use Rattle.xp_board.specs.Legal.{LegalMove}
use Rattle.xp_board.specs.After.{hands_of}

abbrev machine : Machine
machine = record { frames = 16; limit = 1000; page_limit = 16 ∷ []; privilege = 0 ∷ []; vcpu_domain = 0 ∷ [] }

abbrev step : ℕ → Act → StepKind → Option Mark → Step
step place act kind mark = record { place = place; act = act; kind = kind; mark = mark }

abbrev made : Step → ℕ → Made
made x found = record { step = x; found = found }

abbrev list0 : List Made
list0 = []

-- the own vCPU runs
abbrev x1 : Step
x1 = step 9 Load steps.Look None

abbrev list1 : List Made
list1 = made x1 0 ∷ list0

-- a reference to the table
abbrev x2 : Step
x2 = step 2616 (Cas 9223372039002259458 9223372039002259459) steps.Ref None

abbrev list2 : List Made
list2 = made x2 9223372039002259458 ∷ list1

-- its entry lock
abbrev x3 : Step
x3 = step 2617 (Cas 5629499534213121 5910974510923778) steps.Kind None

abbrev list3 : List Made
list3 = made x3 5629499534213121 ∷ list2

-- entry 0: frame 9, writable
abbrev x4 : Step
x4 = step 2619 Load steps.Look None

abbrev list4 : List Made
list4 = made x4 36867 ∷ list3

-- a reference to frame 9
abbrev x5 : Step
x5 = step 4676 (Cas 9223372039002259458 9223372039002259459) steps.Ref None

abbrev list5 : List Made
list5 = made x5 9223372039002259458 ∷ list4

-- and a typed one
abbrev x6 : Step
x6 = step 4677 (Cas 32651097298436097 32651097298436098) steps.Kind None

abbrev list6 : List Made
list6 = made x6 32651097298436097 ∷ list5

-- the accessed bit: the entry asks the same
abbrev x7 : Step
x7 = step 2619 (Store 36899) steps.Cell None

abbrev list7 : List Made
list7 = made x7 36867 ∷ list6

-- the entry goes: frame 9 comes into the hand
abbrev x8 : Step
x8 = step 2619 (Store 0) steps.Cell None

abbrev list8 : List Made
list8 = made x8 36899 ∷ list7

-- one type count of frame 9 is given back
abbrev x9 : Step
x9 = step 4677 (Add 18446744073709551615) steps.Kind None

abbrev list9 : List Made
list9 = made x9 32651097298436098 ∷ list8

-- the table is unlocked
abbrev x10 : Step
x10 = step 2617 (Add 18446462598732840959) steps.Kind None

abbrev list10 : List Made
list10 = made x10 5910974510923778 ∷ list9

-- ---- the hands
abbrev typed9 : TypedReference
typed9 = record { frame = 9; kind = Some kinds.Writable; owner = owners.Of 0; live = lives.Found }

after_lock : (hands_of machine 0 list3).locks ≡ record { frame = 5; kind = kinds.L1; owner = owners.Of 0; seen = None; since = 3 } ∷ []
unfolding hands_of left_by times_by first_by without_by changed_by some_of first_of kept_of place_at ref_read kind_read kind_fields has_form demand_of demand_at owner_of ref_count some_step last_since knows_owner knows_live knows_partial is_settled hand typed_hand is_place IsSpelling
after_lock = refl

after_same : (hands_of machine 0 list7).typed ≡ typed9 ∷ []
unfolding hands_of left_by times_by first_by without_by changed_by some_of first_of kept_of place_at ref_read kind_read kind_fields has_form demand_of demand_at owner_of ref_count some_step last_since knows_owner knows_live knows_partial is_settled hand typed_hand is_place IsSpelling
after_same = refl

after_none : (hands_of machine 0 list8).typed ≡ record { frame = 9; kind = Some kinds.Writable; owner = owners.Since 7; live = lives.Found } ∷ (typed9 ∷ [])
unfolding hands_of left_by times_by first_by without_by changed_by some_of first_of kept_of place_at ref_read kind_read kind_fields has_form demand_of demand_at owner_of ref_count some_step last_since knows_owner knows_live knows_partial is_settled hand typed_hand is_place IsSpelling
after_none = refl

after_drop : (hands_of machine 0 list9).refs ≡ record { frame = 9; owner = owners.Since 7 } ∷ []
unfolding hands_of left_by times_by first_by without_by changed_by some_of first_of kept_of place_at ref_read kind_read kind_fields has_form demand_of demand_at owner_of ref_count some_step last_since knows_owner knows_live knows_partial is_settled hand typed_hand is_place IsSpelling
after_drop = refl

after_unlock : (hands_of machine 0 list10).refs ≡ record { frame = 5; owner = owners.Of 0 } ∷ (record { frame = 9; owner = owners.Since 7 } ∷ [])
unfolding hands_of left_by times_by first_by without_by changed_by some_of first_of kept_of place_at ref_read kind_read kind_fields has_form demand_of demand_at owner_of ref_count some_step last_since knows_owner knows_live knows_partial is_settled hand typed_hand is_place IsSpelling
after_unlock = refl

none_in_work : (hands_of machine 0 list10).works ≡ []
unfolding hands_of left_by times_by first_by without_by changed_by some_of first_of kept_of place_at ref_read kind_read kind_fields has_form demand_of demand_at owner_of ref_count some_step last_since knows_owner knows_live knows_partial is_settled hand typed_hand is_place IsSpelling
none_in_work = refl

-- ---- the steps
legal3 : LegalMove machine 0 (hands_of machine 0 list2) (Kind 5) (Cas 5629499534213121 5910974510923778) steps.Kind None
unfolding hands_of left_by times_by first_by without_by changed_by some_of first_of kept_of place_at ref_read kind_read kind_fields has_form demand_of demand_at owner_of ref_count some_step last_since knows_owner knows_live knows_partial is_settled hand typed_hand is_place IsSpelling
legal3 =
    record {
      place = refl;
      marked = tt;
      running = λ needs. refl;
      spelling = refl;
      act = record { live = refl; table = refl; unlocked = refl; counted = omega arith; below = omega arith; left = refl; in_hand = omega arith };
    }

legal7 : LegalMove machine 0 (hands_of machine 0 list6) (Cell 5 0) (Store 36899) steps.Cell None
unfolding hands_of left_by times_by first_by without_by changed_by some_of first_of kept_of place_at ref_read kind_read kind_fields has_form demand_of demand_at owner_of ref_count some_step last_since knows_owner knows_live knows_partial is_settled hand typed_hand is_place IsSpelling
legal7 = record { place = refl; marked = tt; running = λ needs. refl; spelling = omega arith; act = inl refl }

legal8 : LegalMove machine 0 (hands_of machine 0 list7) (Cell 5 0) (Store 0) steps.Cell None
unfolding hands_of left_by times_by first_by without_by changed_by some_of first_of kept_of place_at ref_read kind_read kind_fields has_form demand_of demand_at owner_of ref_count some_step last_since knows_owner knows_live knows_partial is_settled hand typed_hand is_place IsSpelling
legal8 = record { place = refl; marked = tt; running = λ needs. refl; spelling = omega arith; act = inr tt }

legal9 : LegalMove machine 0 (hands_of machine 0 list8) (Kind 9) (Add 18446744073709551615) steps.Kind None
unfolding hands_of left_by times_by first_by without_by changed_by some_of first_of kept_of place_at ref_read kind_read kind_fields has_form demand_of demand_at owner_of ref_count some_step last_since knows_owner knows_live knows_partial is_settled hand typed_hand is_place IsSpelling
legal9 =
    record {
      place = refl;
      marked = tt;
      running = λ needs. refl;
      spelling = omega arith;
      act = inl (refl, record { in_hand = omega arith; kind = kinds.Writable; live = refl });
    }

legal10 : LegalMove machine 0 (hands_of machine 0 list9) (Kind 5) (Add 18446462598732840959) steps.Kind None
unfolding hands_of left_by times_by first_by without_by changed_by some_of first_of kept_of place_at ref_read kind_read kind_fields has_form demand_of demand_at owner_of ref_count some_step last_since knows_owner knows_live knows_partial is_settled hand typed_hand is_place IsSpelling
legal10 = record { place = refl; marked = tt; running = λ needs. refl; spelling = omega arith; act = inr (refl, omega arith) }
