-- Cells: when a store is legal, and what a load or a store leaves in hand.
use Rattle.std.proofs.Common.{◌≡◌, ℕ, ◌^◌, ◌<◌, ◌==◌, ◌&&◌, ◌||◌, Bool, if◌then◌else◌, true, false, List, [], ◌∷◌, Some, None, IsTrue, refl, ap, ◌∙◌, arith, ◌⊎◌}
use Rattle.xp_words.specs.declared.kind.PageType.{PageType}
use Rattle.xp_words.specs.declared.kind.PageType.TheVariants.{Desc, Writable}
use Rattle.xp_words.specs.declared.place.Place.TheVariants.{Cell}
use Rattle.xp_words.specs.Entries.{fixed}
use Rattle.xp_words.specs.PageTypes.{type_number}
use Rattle.xp_words.specs.Places.{sizes_of}
use Rattle.xp_board.specs.declared.holdings.Holdings.{Holdings}
use Rattle.xp_board.specs.declared.holdings.OwnerFound.{OwnerFound}
use Rattle.xp_board.specs.declared.holdings.TypedReference.{TypedReference}
use Rattle.xp_board.specs.declared.step.Act.TheVariants.{Load, Store}
use Rattle.xp_board.specs.declared.step.StepKind.TheVariants as steps
use Rattle.xp_board.specs.Acts.{left_by}
use Rattle.xp_board.specs.After.{learned_cell, learned_work, learned_lock, learned_claim}
use Rattle.xp_board.specs.CellSteps.{exchanged}
use Rattle.xp_board.specs.Hands.{typed_to}
use Rattle.xp_board.specs.KindSteps.{live_typed}
use Rattle.xp_board.specs.Knowledge.{knows_live}
use Rattle.xp_board.specs.Lists.{first_by, changed_by, some_of}
use Rattle.xp_board.specs.Spelling.{IsSpelling}
use Rattle.xp_board.specs.Told.{PortValue}
use Rattle.xp_board.proofs.ListCounts.{times_by-cons_here}
use Rattle.xp_board.proofs.Numbers.{cell_there}
use Rattle.xp_board.proofs.Sums.{when_eq}
use Rattle.step_maker.specs.Holds.{Holds, Same, MayWork, still}
use Rattle.step_maker.specs.Moves.{May, Moves}
use Rattle.frame_words.specs.Cells.{IsApart, MayStoreCell}

-- ---- when a store may be made
pub may_store : (v : PortValue) (f i w : ℕ) → f < v.post.machine.frames → i < 512 → w < 2 ^ 64 → MayWork v → MayStoreCell v.post.machine f w v.holdings → May v (Cell f i) (Store w) steps.Cell None
unfolding IsSpelling
may_store v f i w frame index small may writes =
    record {
      place = cell_there (sizes_of v.post.machine) f i frame index;
      marked = tt;
      running = λ needs. may.running;
      spelling = small;
      act = rw (writes.apart.locks, writes.apart.claimed, writes.apart.works)
          (record { in_hand = writes.held; kind = writes.kind; live = writes.live; ordinary = writes.ordinary });
    }

-- ---- what is left in hand
changed_none : {A : Type 0} (key : A → ℕ) (f : ℕ) (change : A → A) (xs : List A) → first_by key f xs ≡ None → changed_by key f change xs ≡ xs
unfolding first_by changed_by
changed_none key f change [] e = refl
changed_none key f change (x ∷ xs) e =
    elim (key x == f) as (λ c. (if c then Some x else first_by key f xs) ≡ None → (if c then (change x ∷ xs) else (x ∷ changed_by key f change xs)) ≡ (x ∷ xs)) [
      | true ↦ λ off. absurd (cc)
      | false ↦ λ off. ap (λ ys. x ∷ ys) (changed_none key f change xs off)
    ] e

-- of a frame that the vCPU does not work on, nothing is learned
pub learned_apart : (f i w : ℕ) (h : Holdings) → IsApart f h → learned_cell f i w h ≡ h
learned_apart f i w h apart =
    ap (λ xs. record h { works = xs; locks = changed_by (λ e. e.frame) f (learned_lock i w) h.locks; claimed = changed_by (λ e. e.frame) f (learned_claim i w) h.claimed }) (changed_none (λ e. e.frame) f (learned_work i w) h.works apart.works)
    ∙ ap (λ xs. record h { locks = xs; claimed = changed_by (λ e. e.frame) f (learned_claim i w) h.claimed }) (changed_none (λ e. e.frame) f (learned_lock i w) h.locks apart.locks)
    ∙ ap (λ xs. record h { claimed = xs }) (changed_none (λ e. e.frame) f (learned_claim i w) h.claimed apart.claimed)

pub look_hand : (v w : PortValue) (f i found : ℕ) → Moves v w (Cell f i) Load steps.Look None found → Holds v w (learned_cell f i found v.holdings)
unfolding left_by
look_hand v w f i found m = ap still m.to

pub look_apart : (v w : PortValue) (f i found : ℕ) → Moves v w (Cell f i) Load steps.Look None found → IsApart f v.holdings → Same v w
look_apart v w f i found m apart = look_hand v w f i found m ∙ ap (λ h. still (record v { holdings = h })) (learned_apart f i found v.holdings apart)

pub store_hand : (v w : PortValue) (f i word found : ℕ) → Moves v w (Cell f i) (Store word) steps.Cell None found → IsApart f v.holdings → Same v w
unfolding left_by
store_hand v w f i word found m apart =
    ap still m.to
    ∙ ap (λ o. still (record v { holdings = learned_cell f i word (exchanged i word found o v.holdings) })) apart.locks
    ∙ ap (λ h. still (record v { holdings = h })) (learned_apart f i word v.holdings apart)

-- ---- for callers: the newest typed reference keeps the frame live with its type
head_live : (a b c d : Bool) → a ≡ true → b ≡ true → IsTrue (((a && b) || c) || d)
head_live a b c d x y = rw (x, y) refl

module _ (v : PortValue) (f : ℕ) (kind : PageType) (owner : OwnerFound) (others : List TypedReference) (typed : v.holdings.typed ≡ live_typed f kind owner ∷ others) where
  pub newest_held : 0 < typed_to f v.holdings.typed
  newest_held =
      let one = times_by-cons_here (λ (y : TypedReference). y.frame) f (live_typed f kind owner) others refl in
      rw typed (omega (arith, one))

  pub newest_live : IsTrue (knows_live (sizes_of v.post.machine) f kind v.holdings)
  unfolding knows_live some_of
  newest_live = rw typed (head_live (f == f) (type_number kind == type_number kind) _ _ (when_eq f f refl) (when_eq (type_number kind) (type_number kind) refl))

  pub writes_live : (word : ℕ) → (kind ≡ Writable) ⊎ ((kind ≡ Desc) × (fixed word ≡ Some word)) → IsApart f v.holdings → MayStoreCell v.post.machine f word v.holdings
  writes_live word ordinary apart =
      record { held = newest_held; kind = kind; live = newest_live; ordinary = ordinary; apart = apart }
