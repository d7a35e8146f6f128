-- A worked picture of a mistake: vCPU 0 has frame 5 in work as a table of level 1, and vCPU 1 takes it for one that is validated already. Both
-- are of domain 0.
use Rattle.std.proofs.Common.{◌≡◌, ◌<◌, ◌+◌, ◌*◌, ℕ, true, false, refl, None, Some, List, [], ◌∷◌, arith, inl, inr}
use Rattle.xp_words.specs.Entries.{demand_at, demand_of}
use Rattle.xp_words.specs.KindWords.{has_form, kind_fields, kind_read, kind_write}
use Rattle.xp_words.specs.Machine.{Machine}
use Rattle.xp_words.specs.RefWords.{ref_read, ref_write}
use Rattle.xp_words.specs.declared.kind.KindWord.{KindWord}
use Rattle.xp_words.specs.declared.kind.PageType.{PageType}
use Rattle.xp_words.specs.declared.kind.PageType.TheVariants as types
use Rattle.xp_words.specs.declared.place.Place.TheVariants.{Cell, Clock, Kind, Map, Pages, Refs}
use Rattle.xp_words.specs.declared.refs.RefWord.TheVariants.{Owned}
use Rattle.xp_words.specs.Places.{base_of, is_place, number, place_at, run_of}
use Rattle.xp_board.specs.declared.step.Act.TheVariants.{Add, Cas, Load, Store}
use Rattle.xp_board.specs.declared.step.Item.{Item}
use Rattle.xp_board.specs.declared.step.Mark.TheVariants as marks
use Rattle.xp_board.specs.declared.step.Step.{Step}
use Rattle.xp_board.specs.declared.step.StepKind.TheVariants as kinds
use Rattle.xp_board.specs.Acts.{left_by}
use Rattle.xp_board.specs.Hands.{empty}
use Rattle.xp_board.specs.KindSteps.{begun_kind, locked_kind, unlocked_down}
use Rattle.xp_board.specs.Knowledge.{knows_live, knows_owner}
use Rattle.xp_board.specs.Legal.{Legal}
use Rattle.xp_board.specs.Lists.{Member, changed_by, first_by, kept_of, some_of, times_by, without_by}
use Rattle.xp_board.specs.Readings.{owner_of, ref_count}
use Rattle.xp_board.specs.Safe.{Safe}
use Rattle.xp_board.specs.Spelling.{IsSpelling}
use Rattle.xp_board.specs.Steps.{last_since, some_step}
use Rattle.worked_runs.proofs.Replay.{AreLegal, Moment, hands, look_is_legal, played, step, words}

abbrev machine : Machine
machine = record { frames = 6; limit = 1000; page_limit = 16 ∷ []; privilege = 0 ∷ []; vcpu_domain = 0 ∷ (0 ∷ []) }

-- ---- words
-- an allocated frame of domain 0 with so many references
abbrev owned : ℕ → ℕ
owned count = ref_write (Owned 0 true count)

-- a live frame with so many type counts
abbrev live : PageType → ℕ → KindWord
live kind count =
    record { kind = kind; pinned = false; validated = true; partial = false; locked = false; kept = false; unflushed = false; progress = 0; number = count }

abbrev dead : KindWord
dead =
    record { kind = types.None; pinned = false; validated = false; partial = false; locked = false; kept = false; unflushed = false; progress = 0; number = 0 }

-- a present entry that may be written, with accessed and dirty bits
abbrev entry : ℕ → ℕ
entry frame = frame * 4096 + 103

-- The tables of vCPU 1 are frames 0, 1 and 2, and cell 0 of frame 5 looks like an entry that maps the first of them writable.
abbrev opening : Moment
opening =
    record {
      written = record { place = Clock; word = 20 } ∷ (record { place = Pages 0; word = 4 } ∷ (record { place = Map 0; word = 24 } ∷ (record { place = Refs 0; word = owned 2 } ∷ (record { place = Refs 1; word = owned 2 } ∷ (record { place = Refs 2; word = owned 2 }
          ∷ (record { place = Refs 5; word = owned 1 } ∷ (record { place = Kind 0; word = kind_write (live types.L4 1) }
          ∷ (record { place = Kind 1; word = kind_write (live types.L3 1) } ∷ (record { place = Kind 2; word = kind_write (live types.L2 1) }
          ∷ (record { place = base_of 1; word = 1 } ∷ (record { place = Cell 0 0; word = entry 1 } ∷ (record { place = Cell 1 0; word = entry 2 }
          ∷ (record { place = Cell 5 0; word = entry 0 } ∷ [])))))))))))));
      first = empty;
      second = empty;
    }

-- ---- vCPU 0 begins frame 5, and has looked at none of its entries
abbrev begun : List (ℕ × Step)
begun =
    (0, step machine (Kind 5) (Cas (kind_write dead) (kind_write (begun_kind dead types.L1))) kinds.Kind None) ∷ ((0, step machine (Refs 5) (Cas (owned 1) (owned 2)) kinds.Ref None)
    ∷ ((0, step machine (run_of 0) Load kinds.Look None) ∷ []))

-- vCPU 1 takes a reference to frame 5, finds its type, and locks frame 2
abbrev locked : List (ℕ × Step)
locked =
    (1, step machine (Cell 2 0) Load kinds.Look None) ∷ ((1, step machine (Kind 2) (Cas (kind_write (live types.L2 1)) (kind_write (locked_kind (live types.L2 1)))) kinds.Kind None)
    ∷ ((1, step machine (Refs 2) (Cas (owned 2) (owned 3)) kinds.Ref None) ∷ ((1, step machine (Kind 5) Load kinds.Look None)
    ∷ ((1, step machine (Refs 5) (Cas (owned 2) (owned 3)) kinds.Ref None) ∷ ((1, step machine (run_of 1) Load kinds.Look None) ∷ begun)))))

-- and stores the entry
abbrev stores : Step
stores = step machine (Cell 2 0) (Cas 0 (entry 5)) kinds.Cell None

abbrev unvalidated : Moment
unvalidated = played machine opening ((1, stores) ∷ locked)

-- its processor walks through frame 5, to its own top table, which the guest writes
abbrev walked : List (ℕ × Step)
walked =
    (1, step machine (Cell 0 0) (Store 99) kinds.Guest None) ∷ ((1, step machine (Cell 5 0) Load kinds.Fill None) ∷ ((1, step machine (Cell 2 0) Load kinds.Fill None)
    ∷ ((1, step machine (Cell 1 0) Load kinds.Fill None) ∷ ((1, step machine (Cell 0 0) Load kinds.Fill None)
    ∷ ((1, step machine (base_of 1) Load kinds.Fill (Some (marks.Walk true))) ∷ ((1, step machine (Kind 2) (Add unlocked_down) kinds.Kind None) ∷ []))))))

abbrev item : Item
item = record { user = false; page = 0; frame = 0; writable = true; dirty = true }

-- ---- the hands
-- vCPU 1 has an untyped reference to frame 5, and no typed one
in_hand : (hands (played machine opening locked) 1).typed ≡ []
unfolding some_step some_of last_since left_by place_at number first_by times_by without_by changed_by kept_of is_place ref_read ref_write kind_read kind_fields kind_write has_form owner_of ref_count demand_of demand_at IsSpelling
in_hand = refl

-- ---- the steps
begun_legal : AreLegal machine opening begun
unfolding some_step some_of last_since left_by place_at number first_by times_by without_by changed_by kept_of is_place ref_read ref_write kind_read kind_fields kind_write has_form owner_of ref_count demand_of demand_at IsSpelling knows_live knows_owner
begun_legal = (
  (
    (
      tt,
      look_is_legal machine 0 _ _ refl,
    ),
    record { place = refl; marked = tt; running = λ needs. refl; spelling = refl; act = inl (record { below = omega arith; left = refl }) },
  ),
  record { place = refl; marked = tt; running = λ needs. refl; spelling = refl; act = record { dead = refl; wanted = refl; left = refl; in_hand = omega arith } },
)

locked_legal : AreLegal machine opening locked
unfolding some_step some_of last_since left_by place_at number first_by times_by without_by changed_by kept_of is_place ref_read ref_write kind_read kind_fields kind_write has_form owner_of ref_count demand_of demand_at IsSpelling knows_live knows_owner
locked_legal = (
  (
    (
      (
        (
          (
            begun_legal,
            look_is_legal machine 1 _ _ refl,
          ),
          record { place = refl; marked = tt; running = λ needs. refl; spelling = refl; act = inl (record { below = omega arith; left = refl }) },
        ),
        look_is_legal machine 1 _ _ refl,
      ),
      record { place = refl; marked = tt; running = λ needs. refl; spelling = refl; act = inl (record { below = omega arith; left = refl }) },
    ),
    record { place = refl; marked = tt; running = λ needs. refl; spelling = refl; act = record { live = refl; table = refl; unlocked = refl; counted = omega arith; below = omega arith; left = refl; in_hand = omega arith } },
  ),
  look_is_legal machine 1 _ _ refl,
)

the_entry_may_not_be_stored : Legal machine 1 (hands (played machine opening locked) 1) stores → ⊥
unfolding some_step some_of last_since left_by place_at number first_by times_by without_by changed_by kept_of is_place ref_read ref_write kind_read kind_fields kind_write has_form owner_of ref_count demand_of demand_at IsSpelling knows_live knows_owner
the_entry_may_not_be_stored legal = elim legal.act.may [ inl same ↦ cc | inr asked ↦ (let none : 0 < 0 = asked.0.in_hand in omega arith) ]

walked_legal : AreLegal machine unvalidated walked
unfolding some_step some_of last_since left_by place_at number first_by times_by without_by changed_by kept_of is_place ref_read ref_write kind_read kind_fields kind_write has_form owner_of ref_count demand_of demand_at IsSpelling knows_live knows_owner
walked_legal = (
  (
    (
      (
        (
          (
            (
              tt,
              record { place = refl; marked = tt; running = λ needs. refl; spelling = omega arith; act = inr (refl, omega arith) },
            ),
            record { place = refl; marked = tt; running = λ needs. refl; spelling = tt; act = (record { own = refl; word = refl; none = refl; warm = refl }, tt) },
          ),
          record { place = refl; marked = tt; running = λ needs. refl; spelling = tt; act = ((_, record { flying = refl; touched = refl; level = 4; above = []; reached = refl; walked = refl; warm = refl }), tt) },
        ),
        record { place = refl; marked = tt; running = λ needs. refl; spelling = tt; act = ((_, record { flying = refl; touched = refl; level = 3; above = record { table = 0; level = 4 } ∷ []; reached = refl; walked = refl; warm = refl }), tt) },
      ),
      record { place = refl; marked = tt; running = λ needs. refl; spelling = tt; act = ((_, record { flying = refl; touched = refl; level = 2; above = record { table = 1; level = 3 } ∷ (record { table = 0; level = 4 } ∷ []); reached = refl; walked = refl; warm = refl }), tt) },
    ),
    record { place = refl; marked = tt; running = λ needs. refl; spelling = tt; act = ((_, record { flying = refl; touched = refl; level = 1; above = record { table = 2; level = 2 } ∷ (record { table = 1; level = 3 } ∷ (record { table = 0; level = 4 } ∷ [])); reached = refl; walked = refl; warm = refl }), tt) },
  ),
  record { place = refl; marked = tt; running = λ needs. refl; spelling = omega arith; act = record { item = refl; warm = refl } },
)

-- ---- the machine behind them
the_machine_is_not_safe : Safe machine (words (played machine unvalidated walked)) (hands (played machine unvalidated walked)) → ⊥
unfolding some_step some_of last_since left_by place_at number first_by times_by without_by changed_by kept_of is_place ref_read ref_write kind_read kind_fields kind_write has_form owner_of ref_count demand_of demand_at IsSpelling knows_live knows_owner Member
the_machine_is_not_safe safe = let at = safe.items 1 item (omega arith) (inl refl) in let unused : true ≡ false = at.unused refl in cc
