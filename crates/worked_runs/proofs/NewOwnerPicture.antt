-- A worked picture of a mistake: two free frames are taken after a wait for the stamp of the first alone. vCPU 0 of domain 0 still has a
-- translation to the second, which then is domain 1's.
use Rattle.std.proofs.Common.{◌≡◌, ◌⊎◌, ◌||◌, ◌<◌, ℕ, nat_lt, Bool, true, false, refl, None, List, [], ◌∷◌, IsTrue, arith, inl, inr, zero, suc}
use Rattle.std.proofs.lemmas.Bool.{or_cases}
use Rattle.xp_words.specs.Machine.{Machine}
use Rattle.xp_words.specs.declared.place.Place.TheVariants.{Cell, Clock, Map, Pages, Refs}
use Rattle.xp_words.specs.declared.refs.RefWord.TheVariants.{Dying}
use Rattle.xp_words.specs.Places.{flushed_of, is_place, number, place_at, run_of, sizes_of}
use Rattle.xp_words.specs.RefWords.{ref_read, ref_write}
use Rattle.xp_board.specs.declared.holdings.Made.{Made}
use Rattle.xp_board.specs.declared.step.Act.TheVariants.{Cas, Load, Store}
use Rattle.xp_board.specs.declared.step.Item.{Item}
use Rattle.xp_board.specs.declared.step.Step.{Step}
use Rattle.xp_board.specs.declared.step.StepKind.TheVariants as kinds
use Rattle.xp_board.specs.Acts.{left_by}
use Rattle.xp_board.specs.Flushes.{is_idle, is_past}
use Rattle.xp_board.specs.Hands.{empty}
use Rattle.xp_board.specs.Legal.{Legal}
use Rattle.xp_board.specs.Lists.{Member, first_by, some_of, times_by, with_more, without_by}
use Rattle.xp_board.specs.Readings.{owner_of}
use Rattle.xp_board.specs.Safe.{Safe}
use Rattle.xp_board.specs.Spelling.{IsSpelling}
use Rattle.xp_board.specs.Steps.{some_since, some_step}
use Rattle.worked_runs.proofs.Replay.{AreLegal, Moment, hands, look_is_legal, played, since_ever, step, words}

abbrev machine : Machine
machine = record { frames = 6; limit = 1000; page_limit = 16 ∷ (16 ∷ []); privilege = 0 ∷ (0 ∷ []); vcpu_domain = 0 ∷ (1 ∷ []) }

-- vCPU 0 can write frame 5 through page 7
abbrev item : Item
item = record { user = false; page = 7; frame = 5; writable = true; dirty = true }

-- frames 4 and 5 are free since clocks 10 and 20, and vCPU 0 was last flushed at 15
abbrev opening : Moment
opening =
    record {
      written = record { place = Clock; word = 30 } ∷ (record { place = Map 0; word = 63 } ∷ (record { place = Refs 4; word = 10 } ∷ (record { place = Refs 5; word = 20 }
          ∷ (record { place = flushed_of 0; word = 15 } ∷ (record { place = flushed_of 1; word = 25 } ∷ [])))));
      first = record empty { cache = item ∷ [] };
      second = empty;
    }

-- ---- Both vCPUs run. vCPU 1 of domain 1 counts two pages, finds both frames free, and both vCPUs flushed later than the first one's stamp.
abbrev waited : List (ℕ × Step)
waited =
    (1, step machine (flushed_of 1) Load kinds.Look None) ∷ ((1, step machine (flushed_of 0) Load kinds.Look None) ∷ ((1, step machine (run_of 0) Load kinds.Look None)
    ∷ ((1, step machine (Refs 5) Load kinds.Look None) ∷ ((1, step machine (Refs 4) Load kinds.Look None) ∷ ((1, step machine (Pages 1) (Cas 0 2) kinds.Pages None)
    ∷ ((1, step machine (run_of 1) Load kinds.Look None) ∷ ((0, step machine (run_of 0) Load kinds.Look None) ∷ [])))))))

-- it takes the first one
abbrev takes4 : Step
takes4 = step machine (Refs 4) (Cas 10 (ref_write (Dying 1))) kinds.Ref None

abbrev took4 : List (ℕ × Step)
took4 = (1, takes4) ∷ waited

-- and the second, for which it did not wait
abbrev takes5 : Step
takes5 = step machine (Refs 5) (Cas 20 (ref_write (Dying 1))) kinds.Ref None

abbrev taken : Moment
taken = played machine opening ((1, takes5) ∷ took4)

-- the guest of vCPU 0 writes it
abbrev written : List (ℕ × Step)
written = (0, step machine (Cell 5 0) (Store 99) kinds.Guest None) ∷ []

-- ---- the steps
past_first : (v : ℕ) → v < 2 → IsTrue (is_past (sizes_of machine) 5 10 v (hands (played machine opening waited) 1).steps)
unfolding some_step left_by place_at number first_by times_by with_more is_place
past_first zero b = refl
past_first (suc zero) b = refl
past_first (suc (suc v)) b = absurd (omega arith)

waited_legal : AreLegal machine opening waited
unfolding some_step some_of left_by place_at number first_by times_by with_more without_by is_place ref_read ref_write IsSpelling
waited_legal = (
  (
    (
      (
        (
          (
            (
              (
                tt,
                look_is_legal machine 0 _ _ refl,
              ),
              look_is_legal machine 1 _ _ refl,
            ),
            record { place = refl; marked = tt; running = λ needs. refl; spelling = omega arith; act = record { more = omega arith } },
          ),
          look_is_legal machine 1 _ _ refl,
        ),
        look_is_legal machine 1 _ _ refl,
      ),
      look_is_legal machine 1 _ _ refl,
    ),
    look_is_legal machine 1 _ _ refl,
  ),
  look_is_legal machine 1 _ _ refl,
)

took4_legal : AreLegal machine opening took4
unfolding some_step some_of left_by place_at number first_by times_by with_more without_by is_place ref_read ref_write IsSpelling
took4_legal = (
  waited_legal,
  record { place = refl; marked = tt; running = λ needs. refl; spelling = refl; act = record { credit = omega arith; past = record { since = 5; found = refl; past = past_first }; left = refl } },
)

-- vCPU 0 was found running, and flushed at 15 alone
abbrev made : List Made
made = (hands (played machine opening took4) 1).steps

the_second_may_not_be_taken : Legal machine 1 (hands (played machine opening took4) 1) takes5 → ⊥
unfolding some_step some_of left_by place_at number first_by times_by with_more without_by is_place ref_read ref_write IsSpelling
the_second_may_not_be_taken legal =
    let since = legal.act.past.since in
    let past : is_past (sizes_of machine) since 20 0 made ≡ true = legal.act.past.past 0 (omega arith) in
    elim (or_cases (some_since (sizes_of machine) since (run_of 0) is_idle made) (some_since (sizes_of machine) since (flushed_of 0) (λ w. nat_lt 20 w) made) past) [
      | inl idle ↦ let none : false ≡ true = since_ever (sizes_of machine) since (run_of 0) is_idle made idle in cc
      | inr late ↦ let none : false ≡ true = since_ever (sizes_of machine) since (flushed_of 0) (λ w. nat_lt 20 w) made late in cc
    ]

written_legal : AreLegal machine taken written
unfolding some_step some_of left_by place_at number first_by times_by with_more without_by is_place ref_read ref_write IsSpelling
written_legal = (
  tt,
  record { place = refl; marked = tt; running = λ needs. refl; spelling = omega arith; act = record { item = refl; warm = refl } },
)

-- ---- the machine behind them
foreign : (◌≡◌ {A = ℕ} 1 0) ⊎ (false ≡ true) → ⊥
foreign (inl e) = omega (arith, e)
foreign (inr e) = cc

the_machine_is_not_safe : Safe machine (words (played machine taken written)) (hands (played machine taken written)) → ⊥
unfolding some_step some_of left_by place_at number first_by times_by with_more without_by is_place ref_read ref_write IsSpelling Member owner_of
the_machine_is_not_safe safe = let at = safe.items 0 item (omega arith) (inl refl) in foreign at.permitted
