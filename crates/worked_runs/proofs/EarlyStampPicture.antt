-- A worked picture of a mistake: the clock is looked at before the last type count of a frame is given back, and not behind it. vCPU 1 was
-- flushed in between, and has a translation since. Both vCPUs are of domain 0.
use Rattle.std.proofs.Common.{◌≡◌, ◌+◌, ◌*◌, ℕ, true, false, refl, None, Some, List, [], ◌∷◌, arith, inl, inr, zero, suc}
use Rattle.xp_words.specs.Entries.{demand_at, demand_of}
use Rattle.xp_words.specs.KindWords.{has_form, kind_fields, kind_read, kind_write}
use Rattle.xp_words.specs.Machine.{Machine}
use Rattle.xp_words.specs.RefWords.{ref_read, ref_write}
use Rattle.xp_words.specs.declared.kind.KindWord.{KindWord}
use Rattle.xp_words.specs.declared.kind.PageType.{PageType}
use Rattle.xp_words.specs.declared.kind.PageType.TheVariants as types
use Rattle.xp_words.specs.declared.place.Place.TheVariants.{Cell, Clock, Kind, Map, Pages, Refs}
use Rattle.xp_words.specs.declared.refs.RefWord.TheVariants.{Owned}
use Rattle.xp_words.specs.Places.{base_of, flushed_of, is_place, number, place_at, run_of}
use Rattle.xp_board.specs.declared.step.Act.TheVariants.{Add, Cas, Load, Store}
use Rattle.xp_board.specs.declared.step.Item.{Item}
use Rattle.xp_board.specs.declared.step.Mark.TheVariants as marks
use Rattle.xp_board.specs.declared.step.Step.{Step}
use Rattle.xp_board.specs.declared.step.StepKind.TheVariants as kinds
use Rattle.xp_board.specs.Acts.{left_by}
use Rattle.xp_board.specs.Flushes.{IsPastFlush}
use Rattle.xp_board.specs.Hands.{empty}
use Rattle.xp_board.specs.KindSteps.{begun_kind, locked_kind, unlocked_down}
use Rattle.xp_board.specs.Knowledge.{knows_live, knows_owner}
use Rattle.xp_board.specs.Legal.{Legal}
use Rattle.xp_board.specs.Lists.{Member, changed_by, first_by, kept_of, some_of, times_by, without_by}
use Rattle.xp_board.specs.Readings.{owner_of, ref_count}
use Rattle.xp_board.specs.RefSteps.{one_down}
use Rattle.xp_board.specs.Safe.{Safe}
use Rattle.xp_board.specs.Spelling.{IsSpelling}
use Rattle.xp_board.specs.Steps.{last_since, some_step}
use Rattle.worked_runs.proofs.Replay.{AreLegal, Moment, hands, look_is_legal, played, step, words}

abbrev machine : Machine
machine = record { frames = 7; limit = 1000; page_limit = 16 ∷ []; privilege = 0 ∷ []; vcpu_domain = 0 ∷ (0 ∷ []) }

-- ---- words
-- an allocated frame of domain 0 with so many references
abbrev owned : ℕ → ℕ
owned count = ref_write (Owned 0 true count)

-- a live frame with so many type counts
abbrev live : PageType → ℕ → KindWord
live kind count =
    record { kind = kind; pinned = false; validated = true; partial = false; locked = false; kept = false; unflushed = false; progress = 0; number = count }

-- a dead frame that was writable, with that stamp
abbrev dead : ℕ → KindWord
dead stamp =
    record { kind = types.Writable; pinned = false; validated = false; partial = false; locked = false; kept = false; unflushed = false; progress = 0; number = stamp }

-- a table of level 1 in work, past its flush
abbrev work : KindWord
work =
    record { kind = types.L1; pinned = false; validated = false; partial = false; locked = true; kept = false; unflushed = false; progress = 0; number = 0 }

-- a present entry that may be written, with accessed and dirty bits
abbrev entry : ℕ → ℕ
entry frame = frame * 4096 + 103

-- The tables of vCPU 1 are frames 0 to 3, and entries 0 and 1 of the last one map frame 6. The clock is 20.
abbrev opening : Moment
opening =
    record {
      written = record { place = Clock; word = 20 } ∷ (record { place = Pages 0; word = 5 } ∷ (record { place = Map 0; word = 48 } ∷ (record { place = flushed_of 0; word = 19 } ∷ (record { place = flushed_of 1; word = 5 }
          ∷ (record { place = Refs 0; word = owned 2 } ∷ (record { place = Refs 1; word = owned 2 } ∷ (record { place = Refs 2; word = owned 2 }
          ∷ (record { place = Refs 3; word = owned 2 } ∷ (record { place = Refs 6; word = owned 3 } ∷ (record { place = Kind 0; word = kind_write (live types.L4 1) }
          ∷ (record { place = Kind 1; word = kind_write (live types.L3 1) } ∷ (record { place = Kind 2; word = kind_write (live types.L2 1) }
          ∷ (record { place = Kind 3; word = kind_write (live types.L1 1) } ∷ (record { place = Kind 6; word = kind_write (live types.Writable 2) }
          ∷ (record { place = base_of 1; word = 1 } ∷ (record { place = Cell 0 0; word = entry 1 } ∷ (record { place = Cell 1 0; word = entry 2 }
          ∷ (record { place = Cell 2 0; word = entry 3 } ∷ (record { place = Cell 3 0; word = entry 6 } ∷ (record { place = Cell 3 1; word = entry 6 } ∷ []))))))))))))))))))));
      first = empty;
      second = empty;
    }

-- ---- vCPU 0 takes entry 0 away, under the lock of its table, and looks at the clock: 20
abbrev looked : List (ℕ × Step)
looked =
    (0, step machine Clock Load kinds.Look None) ∷ ((0, step machine (Kind 3) (Add unlocked_down) kinds.Kind None) ∷ ((0, step machine (Cell 3 0) (Cas (entry 6) 0) kinds.Cell None)
    ∷ ((0, step machine (Cell 3 0) Load kinds.Look None) ∷ ((0, step machine (Kind 3) (Cas (kind_write (live types.L1 1)) (kind_write (locked_kind (live types.L1 1)))) kinds.Kind None)
    ∷ ((0, step machine (Refs 3) (Cas (owned 2) (owned 3)) kinds.Ref None) ∷ ((0, step machine (run_of 0) Load kinds.Look None) ∷ []))))))

-- vCPU 1 flushes, at 21
abbrev flushed : List (ℕ × Step)
flushed =
    (1, step machine (flushed_of 1) (Store 21) kinds.Ack None) ∷ ((1, step machine Clock (Cas 20 21) kinds.Tick None) ∷ ((1, step machine (run_of 1) Load kinds.Look None) ∷ looked))

-- its guest writes frame 6 by entry 1, which is a walk and a store
abbrev cached : List (ℕ × Step)
cached =
    (1, step machine (Cell 6 0) (Store 7) kinds.Guest None) ∷ ((1, step machine (Cell 3 1) Load kinds.Fill None) ∷ ((1, step machine (Cell 2 0) Load kinds.Fill None)
    ∷ ((1, step machine (Cell 1 0) Load kinds.Fill None) ∷ ((1, step machine (Cell 0 0) Load kinds.Fill None)
    ∷ ((1, step machine (base_of 1) Load kinds.Fill (Some (marks.Walk true))) ∷ flushed)))))

-- it takes entry 1 away, and gives its type count back: one is left
abbrev dropped : List (ℕ × Step)
dropped =
    (1, step machine (Kind 6) (Add one_down) kinds.Kind None) ∷ ((1, step machine (Kind 3) (Add unlocked_down) kinds.Kind None) ∷ ((1, step machine (Cell 3 1) (Cas (entry 6) 0) kinds.Cell None)
    ∷ ((1, step machine (Cell 3 1) Load kinds.Look None) ∷ ((1, step machine (Kind 3) (Cas (kind_write (live types.L1 1)) (kind_write (locked_kind (live types.L1 1)))) kinds.Kind None)
    ∷ ((1, step machine (Refs 3) (Cas (owned 3) (owned 4)) kinds.Ref None) ∷ cached)))))

-- vCPU 0 gives the last one back
abbrev closing : List (ℕ × Step)
closing = (0, step machine (Kind 6) (Add one_down) kinds.Kind None) ∷ dropped

-- and leaves the frame dead with the clock value of before
abbrev dies : Step
dies = step machine (Kind 6) (Store (kind_write (dead 20))) kinds.Kind None

abbrev dead_early : Moment
dead_early = played machine opening ((0, dies) ∷ closing)

-- It wants the frame as a table of level 1. vCPU 1 runs, and was flushed at 21; its own flush is at 22.
abbrev waited : List (ℕ × Step)
waited =
    (0, step machine (flushed_of 0) (Store 22) kinds.Ack None) ∷ ((0, step machine Clock (Cas 21 22) kinds.Tick None) ∷ ((0, step machine (flushed_of 1) Load kinds.Look None)
    ∷ ((0, step machine (run_of 1) Load kinds.Look None) ∷ ((0, step machine (Kind 6) (Cas (kind_write (dead 20)) (kind_write (begun_kind (dead 20) types.L1))) kinds.Kind None) ∷ []))))

-- so the mark goes off, and the guest of vCPU 1 writes the table
abbrev written : List (ℕ × Step)
written = (1, step machine (Cell 6 0) (Store 99) kinds.Guest None) ∷ ((0, step machine (Kind 6) (Store (kind_write work)) kinds.Kind None) ∷ waited)

abbrev item : Item
item = record { user = false; page = 1; frame = 6; writable = true; dirty = true }

-- ---- the steps
looked_legal : AreLegal machine opening looked
unfolding some_step some_of last_since left_by place_at number first_by times_by without_by changed_by kept_of is_place ref_read ref_write kind_read kind_fields kind_write has_form owner_of ref_count demand_of demand_at IsSpelling knows_live knows_owner
looked_legal = (
  (
    (
      (
        (
          (
            (
              tt,
              look_is_legal machine 0 _ _ refl,
            ),
            record { place = refl; marked = tt; running = λ needs. refl; spelling = refl; act = inl (record { below = omega arith; left = refl }) },
          ),
          record { place = refl; marked = tt; running = λ needs. refl; spelling = refl; act = record { live = refl; table = refl; unlocked = refl; counted = omega arith; below = omega arith; left = refl; in_hand = omega arith } },
        ),
        look_is_legal machine 0 _ _ refl,
      ),
      record { place = refl; marked = tt; running = λ needs. refl; spelling = omega arith; act = record { seen = refl; may = inr tt } },
    ),
    record { place = refl; marked = tt; running = λ needs. refl; spelling = omega arith; act = inr (refl, omega arith) },
  ),
  look_is_legal machine 0 _ _ refl,
)

flushed_legal : AreLegal machine opening flushed
unfolding some_step some_of last_since left_by place_at number first_by times_by without_by changed_by kept_of is_place ref_read ref_write kind_read kind_fields kind_write has_form owner_of ref_count demand_of demand_at IsSpelling knows_live knows_owner
flushed_legal = (
  (
    (
      looked_legal,
      look_is_legal machine 1 _ _ refl,
    ),
    record { place = refl; marked = tt; running = λ needs. refl; spelling = (omega arith, omega arith); act = record { below = omega arith; left = refl } },
  ),
  record { place = refl; marked = tt; running = λ needs. refl; spelling = (omega arith, refl); act = record { own = refl; word = refl; was_found = refl; warmed = λ cold. absurd cc; landed = refl } },
)

cached_legal : AreLegal machine opening cached
unfolding some_step some_of last_since left_by place_at number first_by times_by without_by changed_by kept_of is_place ref_read ref_write kind_read kind_fields kind_write has_form owner_of ref_count demand_of demand_at IsSpelling knows_live knows_owner
cached_legal = (
  (
    (
      (
        (
          (
            flushed_legal,
            record { place = refl; marked = tt; running = λ needs. refl; spelling = tt; act = (record { own = refl; word = refl; none = refl; warm = refl }, tt) },
          ),
          record { place = refl; marked = tt; running = λ needs. refl; spelling = tt; act = ((_, record { flying = refl; touched = refl; level = 4; above = []; reached = refl; walked = refl; warm = refl }), tt) },
        ),
        record { place = refl; marked = tt; running = λ needs. refl; spelling = tt; act = ((_, record { flying = refl; touched = refl; level = 3; above = record { table = 0; level = 4 } ∷ []; reached = refl; walked = refl; warm = refl }), tt) },
      ),
      record { place = refl; marked = tt; running = λ needs. refl; spelling = tt; act = ((_, record { flying = refl; touched = refl; level = 2; above = record { table = 1; level = 3 } ∷ (record { table = 0; level = 4 } ∷ []); reached = refl; walked = refl; warm = refl }), tt) },
    ),
    record { place = refl; marked = tt; running = λ needs. refl; spelling = tt; act = ((_, record { flying = refl; touched = refl; level = 1; above = record { table = 2; level = 2 } ∷ (record { table = 1; level = 3 } ∷ (record { table = 0; level = 4 } ∷ [])); reached = refl; walked = refl; warm = refl }), tt) },
  ),
  record { place = refl; marked = tt; running = λ needs. refl; spelling = omega arith; act = record { item = refl; warm = refl } },
)

dropped_legal : AreLegal machine opening dropped
unfolding some_step some_of last_since left_by place_at number first_by times_by without_by changed_by kept_of is_place ref_read ref_write kind_read kind_fields kind_write has_form owner_of ref_count demand_of demand_at IsSpelling knows_live knows_owner
dropped_legal = (
  (
    (
      (
        (
          (
            cached_legal,
            record { place = refl; marked = tt; running = λ needs. refl; spelling = refl; act = inl (record { below = omega arith; left = refl }) },
          ),
          record { place = refl; marked = tt; running = λ needs. refl; spelling = refl; act = record { live = refl; table = refl; unlocked = refl; counted = omega arith; below = omega arith; left = refl; in_hand = omega arith } },
        ),
        look_is_legal machine 1 _ _ refl,
      ),
      record { place = refl; marked = tt; running = λ needs. refl; spelling = omega arith; act = record { seen = refl; may = inr tt } },
    ),
    record { place = refl; marked = tt; running = λ needs. refl; spelling = omega arith; act = inr (refl, omega arith) },
  ),
  record { place = refl; marked = tt; running = λ needs. refl; spelling = omega arith; act = inl (refl, record { in_hand = omega arith; kind = types.Writable; live = refl }) },
)

closing_legal : AreLegal machine opening closing
unfolding some_step some_of last_since left_by place_at number first_by times_by without_by changed_by kept_of is_place ref_read ref_write kind_read kind_fields kind_write has_form owner_of ref_count demand_of demand_at IsSpelling knows_live knows_owner
closing_legal = (
  dropped_legal,
  record { place = refl; marked = tt; running = λ needs. refl; spelling = omega arith; act = inl (refl, record { in_hand = omega arith; kind = types.Writable; live = refl }) },
)

the_early_stamp_may_not_be_left : Legal machine 0 (hands (played machine opening closing) 0) dies → ⊥
unfolding some_step some_of last_since left_by place_at number first_by times_by without_by changed_by kept_of is_place ref_read ref_write kind_read kind_fields kind_write has_form owner_of ref_count demand_of demand_at IsSpelling
the_early_stamp_may_not_be_left legal = let never : false ≡ true = legal.act.stamp in cc

-- with that stamp nobody is waited for
past : IsPastFlush machine (hands (played machine dead_early waited) 0) (record { frame = 6; word = kind_write (begun_kind (dead 20) types.L1); recorded = 0; fixed = 0; seen = None; unsettled = None; since = 10; unmarked = 10 })
unfolding some_step some_of last_since left_by place_at number first_by times_by without_by changed_by kept_of is_place ref_read ref_write kind_read kind_fields kind_write has_form owner_of ref_count demand_of demand_at IsSpelling knows_live knows_owner
past zero b = inl refl
past (suc zero) b = inl refl
past (suc (suc v)) b = absurd (omega arith)

waited_legal : AreLegal machine dead_early waited
unfolding some_step some_of last_since left_by place_at number first_by times_by without_by changed_by kept_of is_place ref_read ref_write kind_read kind_fields kind_write has_form owner_of ref_count demand_of demand_at IsSpelling knows_live knows_owner
waited_legal = (
  (
    (
      (
        (
          tt,
          record { place = refl; marked = tt; running = λ needs. refl; spelling = refl; act = record { dead = refl; wanted = refl; left = refl; in_hand = omega arith } },
        ),
        look_is_legal machine 0 _ _ refl,
      ),
      look_is_legal machine 0 _ _ refl,
    ),
    record { place = refl; marked = tt; running = λ needs. refl; spelling = (omega arith, omega arith); act = record { below = omega arith; left = refl } },
  ),
  record { place = refl; marked = tt; running = λ needs. refl; spelling = (omega arith, refl); act = record { own = refl; word = refl; was_found = refl; warmed = λ cold. absurd cc; landed = refl } },
)

written_legal : AreLegal machine dead_early written
unfolding some_step some_of last_since left_by place_at number first_by times_by without_by changed_by kept_of is_place ref_read ref_write kind_read kind_fields kind_write has_form owner_of ref_count demand_of demand_at IsSpelling knows_live knows_owner
written_legal = (
  (
    waited_legal,
    record { place = refl; marked = tt; running = λ needs. refl; spelling = refl; act = record { work = refl; marked = refl; past = past; left = refl } },
  ),
  record { place = refl; marked = tt; running = λ needs. refl; spelling = omega arith; act = record { item = refl; warm = refl } },
)

-- ---- the machine behind them
the_machine_is_not_safe : Safe machine (words (played machine dead_early written)) (hands (played machine dead_early written)) → ⊥
unfolding some_step some_of last_since left_by place_at number first_by times_by without_by changed_by kept_of is_place ref_read ref_write kind_read kind_fields kind_write has_form owner_of ref_count demand_of demand_at IsSpelling knows_live knows_owner Member
the_machine_is_not_safe safe = let at = safe.items 1 item (omega arith) (inl refl) in let unused : true ≡ false = at.unused refl in cc
