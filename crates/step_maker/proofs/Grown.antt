-- A request that only grows is within the larger one.
use Rattle.std.proofs.Common.{◌≡◌, ◌⊎◌, ℕ, Bool, true, false, Option, Some, None, IsTrue, refl, sym, ◌∙◌, subst, inl, inr}
use Rattle.xp_words.specs.Machine.{Machine}
use Rattle.xp_words.specs.declared.kind.PageType.{PageType}
use Rattle.xp_words.specs.declared.kind.PageType.TheVariants as kinds
use Rattle.xp_words.specs.declared.place.Place.{Place}
use Rattle.xp_board.specs.declared.holdings.Holdings.{Holdings}
use Rattle.xp_board.specs.declared.holdings.Lock.{Lock}
use Rattle.xp_board.specs.declared.holdings.Work.{Work}
use Rattle.xp_board.specs.Hands.{lock_on, work_on}
use Rattle.xp_board.specs.Readings.{domain_of}
use Rattle.step_maker.specs.Moves.{Moment}
use Rattle.step_maker.specs.Asked.{Asked, Implies, IsAsked, IsFor, IsNaming, Keeps, Request, Within, context, demanded, doomed, entered, entry_owner, named, of_old, owner_below, walked}
use Rattle.step_maker.specs.Finding.{Finding, FoundAt, FoundWith}
use Rattle.step_maker.specs.Rising.{Grows, IsOfSame, NeedsOwners, OnlyWhere, Rises, Stays}

rises : (a b : Bool) → Rises a b → Implies a b
rises true b more is = more
rises false b more is = absurd cc

stays : {A : Type 0} (a b : Option A) → Stays a b → Keeps a b
stays (Some x) b more y is = more ∙ is
stays None b more y is = absurd cc

only_where : (b : Bool) (A : Type 0) → OnlyWhere b A → b ≡ true → A
only_where true A a on = a
only_where false A a on = absurd cc

-- ---- requests of the same owners
module _ (r q : Request) (same : IsOfSame r q) where
  below : (t : Option PageType) → owner_below r t ≡ owner_below q t
  below (Some kinds.L1) = same.pages_of
  below (Some kinds.L2) = same.owner
  below (Some kinds.L3) = same.owner
  below (Some kinds.L4) = same.owner
  below (Some kinds.Desc) = same.owner
  below (Some kinds.Writable) = same.owner
  below (Some kinds.None) = same.owner
  below None = same.owner

  owners_alike : (work : Option Work) (lock : Option Lock) → entry_owner r work lock ≡ entry_owner q work lock
  owners_alike (Some e) lock = same.owner
  owners_alike None (Some o) = below (Some o.kind)
  owners_alike None None = same.owner

-- ---- within
module _ (n : Machine) (s : ℕ) (r q : Request) (F G : Finding) (more : (m : Moment) → F m → G m) (grows : Grows r q) (same : NeedsOwners r → IsOfSame r q) where
  found : (p : Place) (x : ℕ) → FoundAt F p x → FoundAt G p x
  found p x a = record { moment = a.moment; was = more a.moment a.was; place = a.place; word = a.word }

  found_with : (p : Place) (x : ℕ) (h : Holdings) → FoundWith F p x h → FoundWith G p x h
  found_with p x h a = record { moment = a.moment; was = more a.moment a.was; place = a.place; word = a.word; hand = a.hand }

  -- where what it names is asked of the larger one, in whatever way
  module _ (names : (f : ℕ) → IsTrue (r.names f) → (k : Option PageType) → IsFor k r.want → Asked n s q G f r.owner k) (into : IsNaming r → (f : ℕ) → IsTrue (r.names f) → IsTrue (q.names f))
      (backs : (f : ℕ) → IsTrue (r.backs f) → IsAsked n s q G f) where
    whose : (v : ℕ) → (v ≡ s) ⊎ (r.destroys ≡ Some (domain_of n v)) → (v ≡ s) ⊎ (q.destroys ≡ Some (domain_of n v))
    whose v (inl a) = inl a
    whose v (inr a) = inr (stays r.destroys q.destroys grows.destroys (domain_of n v) a)

    asks : (f o : ℕ) (k : Option PageType) → Asked n s r F f o k → Asked n s q G f o k
    asks f o k (named a b c) = subst (λ p. Asked n s q G f p k) (sym b) (names f a k c)
    asks f o k (demanded t i w h a b c d) = demanded t i w h (rises r.entries q.entries grows.entries a) (found_with _ w h b) c (d ∙ owners_alike r q (same (inl a)) (work_on t h.works) (lock_on t h.locks))
    asks f o k (entered t i w l m a b c d e j x y) =
        entered t i w l m (rises r.entries q.entries grows.entries a) (into (inr (inr (i, c))) t b) (stays r.index q.index grows.index i c) (stays r.new_word q.new_word grows.new_word w d) (more m e) j x (y ∙ below r q (same (inl a)) (Some l.kind))
    asks f o k (walked t i w a b c d e) = walked t i w (rises r.walks q.walks grows.walks a) (found _ w b) c (d ∙ (same (inr (inl a))).owner) (walks_for a e)
      where
        walks_for : r.walks ≡ true → IsFor k r.want → IsFor k q.want
        walks_for on is = subst (λ o. IsFor k o) (only_where r.walks (r.want ≡ q.want) grows.want on) is
    asks f o k (context v j w a b c d e i x) = context v j w (rises r.contexts q.contexts grows.contexts a) (found _ w b) c d (whose v e) i x
    asks f o k (of_old v j w y a b c d e i x z p) = of_old v j w y (rises r.contexts q.contexts grows.contexts a) (found _ w b) c d (whose v e) (found _ y i) x z p
    asks f o k (doomed d x a b c e i) = doomed d x (stays r.destroys q.destroys grows.destroys d a) (found _ x b) c e i

    pub grown_where : Within n s r F q G
    grown_where =
        record {
          asked = asks;
          backs = backs;
          moments = more;
          returns = rises r.returns q.returns grows.returns;
          by_numbers = stays r.by_numbers q.by_numbers grows.by_numbers;
          index = stays r.index q.index grows.index;
          new_word = stays r.new_word q.new_word grows.new_word;
          walks = rises r.walks q.walks grows.walks;
          stores = rises r.stores q.stores grows.stores;
          flushes = rises r.flushes q.flushes grows.flushes;
          waits = stays r.waits q.waits grows.waits;
          destroys = stays r.destroys q.destroys grows.destroys;
          grants = stays r.grants q.grants grows.grants;
          pages = stays r.pages q.pages grows.pages;
          block = stays r.block q.block grows.block;
          rose = rises r.rose q.rose grows.rose;
          entries = rises r.entries q.entries grows.entries;
          contexts = rises r.contexts q.contexts grows.contexts;
          locks = rises r.locks q.locks grows.locks;
          pins = rises r.pins q.pins grows.pins;
          alone = rises r.alone q.alone grows.alone;
          names = into;
          owner = λ a. (same (inr (inr (inl a)))).owner;
          over = λ d a. (grows.over d a, (same (inr (inr (inr (d, a))))).owner);
          ldt_page = stays r.ldt_page q.ldt_page grows.ldt_page;
          descriptor = stays r.descriptor q.descriptor grows.descriptor;
        }

-- of the same owners
pub grown_by : (n : Machine) (s : ℕ) (r q : Request) (F G : Finding) → ((m : Moment) → F m → G m) → Grows r q → IsOfSame r q →
    ((f : ℕ) → IsTrue (r.names f) → (k : Option PageType) → IsFor k r.want → Asked n s q G f r.owner k) → (IsNaming r → (f : ℕ) → IsTrue (r.names f) → IsTrue (q.names f)) →
    ((f : ℕ) → IsTrue (r.backs f) → IsAsked n s q G f) → Within n s r F q G
grown_by n s r q F G more grows same names into backs = grown_where n s r q F G more grows (λ needs. same) names into backs

-- ---- a request is within itself
pub rises_self : (a : Bool) → Rises a a
rises_self true = refl
rises_self false = tt

stays_self : {A : Type 0} (a : Option A) → Stays a a
stays_self (Some x) = refl
stays_self None = tt

where_self : (b : Bool) (k : Option PageType) → OnlyWhere b (k ≡ k)
where_self true k = refl
where_self false k = tt

pub grows_self : (r : Request) → Grows r r
grows_self r =
    record {
      returns = rises_self r.returns;
      by_numbers = stays_self r.by_numbers;
      index = stays_self r.index;
      new_word = stays_self r.new_word;
      entries = rises_self r.entries;
      contexts = rises_self r.contexts;
      locks = rises_self r.locks;
      walks = rises_self r.walks;
      stores = rises_self r.stores;
      flushes = rises_self r.flushes;
      waits = stays_self r.waits;
      destroys = stays_self r.destroys;
      grants = stays_self r.grants;
      pages = stays_self r.pages;
      block = stays_self r.block;
      rose = rises_self r.rose;
      pins = rises_self r.pins;
      alone = rises_self r.alone;
      ldt_page = stays_self r.ldt_page;
      descriptor = stays_self r.descriptor;
      want = where_self r.walks r.want;
      over = λ d a. a;
    }

-- ---- flags that are no constants
pub risen : (a : Bool) → Rises a true
risen true = refl
risen false = tt

pub implied : (a b : Bool) → Implies a b → Rises a b
implied true b more = more refl
implied false b more = tt
