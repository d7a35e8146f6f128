-- Translations that serve an access: the cached one, and the one that a walk brings.
use Rattle.std.proofs.Common.{◌≡◌, ℕ, ◌==◌, ◌&&◌, ◌||◌, not, is_some, if◌then◌else◌, Bool, true, false, List, [], ◌∷◌, Option, Some, None, Ok, IsTrue, refl, sym, ap, ◌∙◌, subst}
use Rattle.xp_words.specs.Entries.{frame_of}
use Rattle.xp_words.specs.declared.place.Place.TheVariants.{Cell}
use Rattle.xp_words.proofs.Shared.{and_true as both_true}
use Rattle.xp_board.specs.declared.step.Act.{Act}
use Rattle.xp_board.specs.declared.step.StepKind.TheVariants as kinds
use Rattle.step_maker.specs.Moves.{Moves}
use Rattle.xp_board.specs.declared.step.Item.{Item}
use Rattle.xp_board.specs.FillSteps.{cached_with}
use Rattle.xp_board.specs.GuestSteps.{MayRead, MayStore}
use Rattle.xp_board.specs.Lists.{first_of, some_of}
use Rattle.xp_board.specs.Told.{PortValue, cached_item, is_item}
use Rattle.xp_board.proofs.Sums.{when_eq}
use Rattle.own_cache.specs.Translating.{Translating}
use Rattle.tlb_walks.specs.Accesses.{may_serve, server, serving}
use Rattle.tlb_walks.specs.Addresses.{page_of}
use Rattle.tlb_walks.specs.Flying.{EndedIn, WalkReady}
use Rattle.tlb_walks.specs.Translating.{item_by}
use Rattle.tlb_walks.specs.declared.walks.Walked.{Walked}
use Rattle.tlb_walks.proofs.Turning.{turned_is, turned_landed, turned_ready}

-- ---- the cached one
head_passes : (P : Item → Bool) (y : Item) (ys : List Item) → P y ≡ true → some_of P (y ∷ ys) ≡ true
unfolding some_of
head_passes P y ys e = rw e refl

rest_passes : (P : Item → Bool) (y : Item) (ys : List Item) → some_of P ys ≡ true → some_of P (y ∷ ys) ≡ true
unfolding some_of
rest_passes P y ys e = by (P y) e
  where
    by : (b : Bool) → some_of P ys ≡ true → (b || some_of P ys) ≡ true
    by true e = refl
    by false e = e

first_by_head : (test P : Item → Bool) (x y : Item) (ys : List Item) (b : Bool) → (if b then Some y else first_of test ys) ≡ Some x → P x ≡ true → (first_of test ys ≡ Some x → some_of P ys ≡ true) → some_of P (y ∷ ys) ≡ true
first_by_head test P x y ys true f here rest = let same : y ≡ x = cc in head_passes P y ys (ap P same ∙ here)
first_by_head test P x y ys false f here rest = rest_passes P y ys (rest f)

first_passes : (test P : Item → Bool) (xs : List Item) (x : Item) → first_of test xs ≡ Some x → P x ≡ true → some_of P xs ≡ true
unfolding first_of
first_passes test P [] x e here = absurd cc
first_passes test P (y ∷ ys) x e here = first_by_head test P x y ys (test y) e here (λ f. first_passes test P ys x f here)

serving_by : (write : Bool) (y x : Item) (b : Bool) → may_serve write y ≡ b → (if b then Some y else None) ≡ Some x → (y ≡ x) × (may_serve write x ≡ true)
serving_by write y x true is e = let same : y ≡ x = cc in (same, ap (may_serve write) (sym same) ∙ is)
serving_by write y x false is e = absurd cc

serving_is : (write : Bool) (o : Option Item) (x : Item) → serving write o ≡ Some x → (o ≡ Some x) × (may_serve write x ≡ true)
serving_is write (Some y) x e = let a = serving_by write y x (may_serve write y) refl e in (ap Some a.0, a.1)
serving_is write None x e = absurd cc

pub server_cached : (v : PortValue) (user : Bool) (va : ℕ) (write : Bool) (x : Item) → server v user va write ≡ Some x → cached_item user (page_of va) v.holdings.cache ≡ Some x
server_cached v user va write x e = (serving_is write _ x e).0

and_head : (a b : Bool) → (a && b) ≡ true → a ≡ true
and_head true b e = refl
and_head false b e = absurd cc

pub may_read_cached : (v : PortValue) (user : Bool) (va : ℕ) (write : Bool) (x : Item) → WalkReady v → server v user va write ≡ Some x → MayRead x.frame v.holdings
may_read_cached v user va write x r e =
    record { item = first_passes (is_item user (page_of va)) (λ z. z.frame == x.frame) v.holdings.cache x (server_cached v user va write x e) (when_eq x.frame x.frame refl); warm = r.warm }

pub may_store_cached : (v : PortValue) (user : Bool) (va : ℕ) (x : Item) → WalkReady v → server v user va true ≡ Some x → MayStore x.frame v.holdings
may_store_cached v user va x r e =
    record {
      item = first_passes (is_item user (page_of va)) (λ z. (z.frame == x.frame) && z.writable) v.holdings.cache x (server_cached v user va true x e)
          (both_true (x.frame == x.frame) x.writable (when_eq x.frame x.frame refl) (and_head x.writable x.dirty (serving_is true _ x e).1));
      warm = r.warm;
    }

-- ---- the one that a walk brings
module _ (v u : PortValue) (user : Bool) (va : ℕ) (write : Bool) (r : Walked) (ended : EndedIn v u user va write (Ok r)) where
  pub new_first : u.holdings.cache ≡ cached_with (item_by user va write r) v.holdings.cache
  new_first = ap (λ (t : Translating). t.items) (turned_is v u _ ended.1)

  pub ready_then : WalkReady v → WalkReady u
  ready_then a = turned_ready v u _ ended.1 a

  pub landed_then : u.holdings.walk ≡ None
  landed_then = turned_landed v u _ ended.1 refl

  pub may_read_new : WalkReady v → MayRead (frame_of r.entry) u.holdings
  may_read_new a =
      record {
        item = subst (λ xs. IsTrue (some_of (λ z. z.frame == frame_of r.entry) xs)) (sym new_first) (head_passes (λ z. z.frame == frame_of r.entry) (item_by user va write r) _ (when_eq (frame_of r.entry) (frame_of r.entry) refl));
        warm = (ready_then a).warm;
      }

  pub may_store_new : WalkReady v → r.barrier ≡ None → MayStore (frame_of r.entry) u.holdings
  may_store_new a none =
      record {
        item = subst (λ xs. IsTrue (some_of (λ z. (z.frame == frame_of r.entry) && z.writable) xs)) (sym new_first)
            (head_passes (λ z. (z.frame == frame_of r.entry) && z.writable) (item_by user va write r) _
            (both_true (frame_of r.entry == frame_of r.entry) (not (is_some r.barrier)) (when_eq (frame_of r.entry) (frame_of r.entry) refl) (ap (λ o. not (is_some o)) none)));
        warm = (ready_then a).warm;
      }

-- the cell by other names
pub cell_at : (u w : PortValue) (a : Act) (f g i j x : ℕ) → f ≡ g → i ≡ j → Moves u w (Cell f i) a kinds.Guest None x → Moves u w (Cell g j) a kinds.Guest None x
cell_at u w a f g i j x e d m = subst (λ y. Moves u w (Cell y j) a kinds.Guest None x) e (subst (λ y. Moves u w (Cell f y) a kinds.Guest None x) d m)
