-- A translation that is what a walk would find now leads where the plain walk leads, and that sets no bit.
use Rattle.std.proofs.lemmas.Option.{same_Some}
use Rattle.std.proofs.lemmas.Bool.{and_parts, not-true}
use Rattle.xp_words.proofs.KindLaws.{when_some}
use Rattle.std.proofs.Common.{◌≡◌, ℕ, ◌*◌, ◌^◌, ◌<◌, ◌≤◌, ◌==◌, not, if◌then◌else◌, Bool, true, false, List, [], ◌∷◌, Option, Some, None, refl, sym, ap, ◌∙◌, subst}
use Rattle.xp_words.specs.Machine.{Machine}
use Rattle.xp_words.specs.declared.place.Place.TheVariants.{Cell, Vcpu}
use Rattle.xp_board.specs.declared.holdings.Holdings.{Holdings}
use Rattle.xp_board.specs.Lists.{first_of}
use Rattle.xp_board.specs.Told.{PortValue, cached_item, is_item, told_word}
use Rattle.xp_board.specs.declared.step.Act.{Act}
use Rattle.xp_board.specs.declared.step.Item.{Item}
use Rattle.xp_board.specs.declared.step.StepKind.TheVariants as kinds
use Rattle.xp_board.proofs.PlaceTests.{equal_by}
use Rattle.step_maker.specs.Moves.{Came, Moment, MovesBy, Ran}
use Rattle.step_maker.specs.Plain.{Words}
use Rattle.step_maker.specs.Visits.{Does, Only, Visit, visit_as, visit_of, visits}
use Rattle.step_maker.proofs.Coming.{came_self, came_trans}
use Rattle.tlb_walks.specs.Accesses.{may_serve, server, serving}
use Rattle.tlb_walks.specs.Addresses.{page_of}
use Rattle.tlb_walks.specs.Walks.{top_word}
use Rattle.tlb_walks.proofs.Guests.{server_cached}
use Rattle.table_law.specs.Plain.{Plain, plain_of}
use Rattle.script_law.specs.Walks.{Leads, Way, from_base}
use Rattle.solo_accesses.specs.Stale.{IsBacked, IsNeverStale, MayServe, is_store}
use Rattle.solo_accesses.proofs.Cells.{CellsOf}
use Rattle.solo_accesses.proofs.Ways.{AlikeWays, SameCells, base_alike, leads_alike, page_alone}

-- ---- the newest translation of a page
first_by : {A : Type 0} (test : A → Bool) (ys : List A) (x y : A) → (first_of test ys ≡ Some x → test x ≡ true) → (b : Bool) → test y ≡ b → (if b then Some y else first_of test ys) ≡ Some x → test x ≡ true
first_by test ys x y later true is at = ap test (sym (same_Some y x at)) ∙ is
first_by test ys x y later false is at = later at

first_passes : {A : Type 0} (test : A → Bool) (xs : List A) (x : A) → first_of test xs ≡ Some x → test x ≡ true
unfolding first_of
first_passes test [] x e = absurd cc
first_passes test (y ∷ ys) x e = first_by test ys x y (first_passes test ys x) (test y) refl e

item_is : (user : Bool) (page : ℕ) (x : Item) → is_item user page x ≡ true → (x.user ≡ user) × (x.page ≡ page)
item_is true page x e = let k = and_parts x.user (x.page == page) e in (k.0, equal_by x.page page k.1)
item_is false page x e = let k = and_parts (not x.user) (x.page == page) e in (not-true x.user k.0, equal_by x.page page k.1)

serving_may : (write : Bool) (o : Option Item) (x : Item) → serving write o ≡ Some x → may_serve write x ≡ true
serving_may write (Some y) x e = let k = when_some (may_serve write y) y x e in ap (may_serve write) (sym k.1) ∙ k.0
serving_may write None x e = absurd cc

pub record ServedBy (v : PortValue) (user : Bool) (va : ℕ) (write : Bool) (x : Item) : Type 0 where
  pub user_is : x.user ≡ user
  pub page_is : x.page ≡ page_of va
  pub may : MayServe v.holdings x.frame write x

pub served : (v : PortValue) (user : Bool) (va : ℕ) (write : Bool) (x : Item) → server v user va write ≡ Some x → ServedBy v user va write x
served v user va write x e =
    let c = server_cached v user va write x e in
    let i = item_is user (page_of va) x (first_passes (is_item user (page_of va)) v.holdings.cache x c) in
    record {
      user_is = i.0;
      page_is = i.1;
      may = record {
        newest = subst (λ (u : Bool). cached_item u x.page v.holdings.cache ≡ Some x) (sym i.0) (subst (λ (page : ℕ). cached_item user page v.holdings.cache ≡ Some x) (sym i.1) c);
        frame = refl;
        serves = serving_may write (cached_item user (page_of va) v.holdings.cache) x e;
      };
    }

-- ---- the plain walk
-- the plain walk from that base leads to that frame, and sets no bit
pub record BackedWay (n : Machine) (va : ℕ) (write : Bool) (base : ℕ) (m : Words) (p : Plain) (f : ℕ) (barrier : Option ℕ) : Type 0 where
  pub inside : f < n.frames
  pub left : Plain
  pub is : from_base n va write base p ≡ Leads f barrier left
  pub cells : CellsOf n m left

module _ (n : Machine) (s : ℕ) (m : Words) (user : Bool) (va : ℕ) (write : Bool) (x : Item) (p : Plain) (cells : CellsOf n m p) (few : m (Vcpu s (top_word user)) ≤ n.frames) (b : IsBacked n s m write x)
    (user_is : x.user ≡ user) (page_is : x.page ≡ page_of va) where
  leads_there : from_base n va write (m (Vcpu s (top_word user))) (plain_of m) ≡ Leads x.frame b.barrier b.left
  leads_there =
      sym (page_alone n va write (m (Vcpu s (top_word user))) (plain_of m))
      ∙ subst (λ (u : Bool). from_base n (2 ^ 12 * page_of va) write (m (Vcpu s (top_word u))) (plain_of m) ≡ Leads x.frame b.barrier b.left) user_is
      (subst (λ (page : ℕ). from_base n (2 ^ 12 * page) write (m (Vcpu s (top_word x.user))) (plain_of m) ≡ Leads x.frame b.barrier b.left) page_is b.leads)

  pub backed_way : BackedWay n va write (m (Vcpu s (top_word user))) m p x.frame b.barrier
  backed_way =
      let base = m (Vcpu s (top_word user)) in
      let same : SameCells n (plain_of m) p = λ g j inside low. cells g j inside low in
      let a = leads_alike n x.frame b.barrier b.left (from_base n va write base p) (subst (λ (y : Way). AlikeWays n y (from_base n va write base p)) leads_there (base_alike n va write base (plain_of m) p few same)) in
      record { inside = a.inside; left = a.left; is = a.is; cells = λ g j inside low. a.same g j inside low ∙ b.sets_none g j inside low }

-- ---- by one step of the guest
module _ (v w : PortValue) (f i word : ℕ) (act : Act) (x : Item) (fresh : IsNeverStale v w) (may : MayServe v.holdings f (is_store act) x) where
  fresh_step : (m : Moment) → MovesBy v w m → visit_of m ≡ visit_as kinds.Guest (Cell f i) act word → IsBacked v.post.machine v.post.vcpu (told_word v) (is_store act) x
  fresh_step m moved is =
      let same : m.act ≡ act = ap (λ (y : Visit). y.act) is in
      let there : MayServe m.hand f (is_store m.act) x = subst (λ (h : Holdings). MayServe h f (is_store m.act) x) (sym moved.hand) (subst (λ (a : Act). MayServe v.holdings f (is_store a) x) (sym same) may) in
      subst (λ (a : Act). IsBacked v.post.machine v.post.vcpu (told_word v) (is_store a) x) same
      (fresh m f i x (record { from = v; to = w; before = came_self v; moved = moved; after = came_self w }) (ap (λ (y : Visit). y.kind) is) (ap (λ (y : Visit). y.place) is) there)

  fresh_ran : (ms : List Moment) → Ran v ms w → visits ms ≡ visit_as kinds.Guest (Cell f i) act word ∷ [] → IsBacked v.post.machine v.post.vcpu (told_word v) (is_store act) x
  fresh_ran [] ran is = absurd cc
  fresh_ran (m ∷ []) ran is = fresh_step m (subst (λ (y : PortValue). MovesBy y w m) ran.1 ran.2) cc
  fresh_ran (m ∷ k ∷ ms) ran is = absurd cc

  pub fresh_does : Does v w (Only (visit_as kinds.Guest (Cell f i) act word)) → IsBacked v.post.machine v.post.vcpu (told_word v) (is_store act) x
  unfolding Does
  fresh_does does = fresh_ran does.0 does.1 does.2

-- what is never stale between two ports is never stale between any two on the way
pub never_stale_within : (v u y w : PortValue) → Came v u → Came y w → IsNeverStale v w → IsNeverStale u y
never_stale_within v u y w before after fresh m f i x met kind place may =
    fresh m f i x (record { from = met.from; to = met.to; before = came_trans v u met.from before met.before; moved = met.moved; after = came_trans met.to y w met.after after }) kind place may
