-- What is in hand along an exchange, but for translations: references, the lock, and what is known of the old words.
use Rattle.std.proofs.Common.{◌≡◌, ℕ, ◌+◌, true, false, List, [], ◌∷◌, length, Option, Some, Ok, Err, refl, sym, ap, ◌∙◌, inl, inr}
use Rattle.xp_words.specs.Entries.{demand_at}
use Rattle.xp_words.specs.declared.entry.Demand.{Demand}
use Rattle.xp_words.specs.declared.entry.Demand.TheVariants.{Bad, Nothing, Read, Typed}
use Rattle.xp_words.specs.declared.reply.Stop.{Stop}
use Rattle.xp_board.specs.declared.holdings.Claimed.{Claimed}
use Rattle.xp_board.specs.declared.holdings.Holdings.{Holdings}
use Rattle.xp_board.specs.declared.holdings.Lock.{Lock}
use Rattle.xp_board.specs.declared.holdings.OwnerFound.TheVariants as owners
use Rattle.xp_board.specs.declared.holdings.Reference.{Reference}
use Rattle.xp_board.specs.declared.holdings.TypedReference.{TypedReference}
use Rattle.xp_board.specs.After.{learned_cell, learned_claim, learned_lock, learned_work}
use Rattle.xp_board.specs.CellSteps.{exchanged, keeps_demand}
use Rattle.xp_board.specs.Hands.{changed_claim, changed_lock, changed_work, lock_on, without_lock, without_ref, without_typed}
use Rattle.xp_board.specs.KindSteps.{live_typed}
use Rattle.xp_board.specs.Lists.{changed_by}
use Rattle.xp_board.specs.Settling.{demand_in, demand_out}
use Rattle.xp_board.specs.Told.{PortValue}
use Rattle.xp_board.proofs.ListCounts.{first_by-cons_here}
use Rattle.xp_board.proofs.Sums.{when_eq}
use Rattle.step_maker.specs.Holds.{Holds, quiet}
use Rattle.kind_words.proofs.Leaving.{without_newest}
use Rattle.entry_locks.specs.Entries.{entry_set, entry_unset}
use Rattle.entry_exchange.specs.Holding.{LeavesDemand, LeavesUnlocked}
use Rattle.entry_exchange.specs.Parts.{LeavesGone}

-- w is the same port as v, with these parts of its hand
abbrev pub with_parts : PortValue → List Reference → List TypedReference → List Lock → Option ℕ → Option ℕ → PortValue
with_parts v rs ys ls a b = quiet (record v { holdings = record v.holdings { refs = rs; typed = ys; locks = ls; old0 = a; old1 = b } })

abbrev pub Stands : PortValue → PortValue → List Reference → List TypedReference → List Lock → Option ℕ → Option ℕ → Type 0
Stands v w rs ys ls a b = quiet w ≡ with_parts v rs ys ls a b

-- ---- one reference, as a demand has it
abbrev pub IsFor : Demand → List Reference → List TypedReference → Type 0
IsFor (Read g) rs ys = (r : Reference) × (r.frame ≡ g) × (rs ≡ r ∷ []) × (ys ≡ [])
IsFor (Typed g t) rs ys = (r : TypedReference) × (r.frame ≡ g) × (rs ≡ []) × (ys ≡ r ∷ [])
IsFor _ rs ys = (rs ≡ []) × (ys ≡ [])

-- it is taken, of that owner
abbrev pub refs_of : Demand → ℕ → List Reference
refs_of (Read g) owner = record { frame = g; owner = owners.Of owner } ∷ []
refs_of _ owner = []

abbrev pub typed_of : Demand → ℕ → List TypedReference
typed_of (Typed g t) owner = live_typed g t (owners.Of owner) ∷ []
typed_of _ owner = []

pub is_taken : (d : Demand) (owner : ℕ) → IsFor d (refs_of d owner) (typed_of d owner)
is_taken Nothing owner = (refl, refl)
is_taken Bad owner = (refl, refl)
is_taken (Read g) owner = (_, refl, refl, refl)
is_taken (Typed g t) owner = (_, refl, refl, refl)

-- it came out of an entry, by a step of that number
abbrev pub refs_from : Demand → ℕ → List Reference
refs_from (Read g) n = record { frame = g; owner = owners.Since n } ∷ []
refs_from _ n = []

abbrev pub typed_from : Demand → ℕ → List TypedReference
typed_from (Typed g t) n = live_typed g t (owners.Since n) ∷ []
typed_from _ n = []

pub is_from : (d : Demand) (n : ℕ) → IsFor d (refs_from d n) (typed_from d n)
is_from Nothing n = (refl, refl)
is_from Bad n = (refl, refl)
is_from (Read g) n = (_, refl, refl, refl)
is_from (Typed g t) n = (_, refl, refl, refl)

-- ---- parts of a port
module _ (v w : PortValue) (rs : List Reference) (ys : List TypedReference) (ls : List Lock) (a b : Option ℕ) (stands : Stands v w rs ys ls a b) where
  pub locks_are : w.holdings.locks ≡ ls
  locks_are = ap (λ (q : PortValue). q.holdings.locks) stands

  pub works_are : v.holdings.works ≡ [] → w.holdings.works ≡ []
  works_are idle = ap (λ (q : PortValue). q.holdings.works) stands ∙ idle

  -- ---- given back
  nothing_left : (x : PortValue) (c : Option ℕ) → Holds w x (record w.holdings { old0 = c }) → rs ≡ [] → ys ≡ [] → Stands v x [] [] ls c b
  nothing_left x c leaves none no_typed =
      ap quiet leaves ∙ ap (λ (q : PortValue). quiet (record q { holdings = record q.holdings { old0 = c } })) stands
      ∙ ap (λ xs. with_parts v xs ys ls c b) none ∙ ap (λ xs. with_parts v [] xs ls c b) no_typed

  pub gone : (x : PortValue) (d : Demand) → IsFor d rs ys → LeavesGone w x d → (c : Option ℕ) × Stands v x [] [] ls c b
  gone x Nothing is leaves = (leaves.0, nothing_left x leaves.0 leaves.1 is.0 is.1)
  gone x Bad is leaves = (leaves.0, nothing_left x leaves.0 leaves.1 is.0 is.1)
  gone x (Read g) is leaves = (
    leaves.0,
    ap quiet leaves.1 ∙ ap (λ (q : PortValue). quiet (record q { holdings = record q.holdings { refs = without_ref g q.holdings.refs; old0 = leaves.0 } })) stands
        ∙ ap (λ xs. with_parts v xs ys ls leaves.0 b) (without_newest (λ (y : Reference). y.frame) g is.0 [] rs is.1 is.2) ∙ ap (λ xs. with_parts v [] xs ls leaves.0 b) is.3,
  )
  gone x (Typed g t) is leaves = (
    leaves.0,
    ap quiet leaves.1 ∙ ap (λ (q : PortValue). quiet (record q { holdings = record q.holdings { typed = without_typed g q.holdings.typed; old0 = leaves.0 } })) stands
        ∙ ap (λ xs. with_parts v rs xs ls leaves.0 b) (without_newest (λ (y : TypedReference). y.frame) g is.0 [] ys is.1 is.3) ∙ ap (λ xs. with_parts v xs [] ls leaves.0 b) is.2,
  )

-- ---- from the start
pub stands_self : (v : PortValue) (e : Lock) → v.holdings.refs ≡ [] → v.holdings.typed ≡ [] → v.holdings.locks ≡ e ∷ [] → Stands v v [] [] (e ∷ []) v.holdings.old0 v.holdings.old1
stands_self v e refs typed locks =
    ap (λ (xs : List Reference). quiet (record v { holdings = record v.holdings { refs = xs } })) refs
    ∙ ap (λ (xs : List TypedReference). quiet (record v { holdings = record v.holdings { refs = []; typed = xs } })) typed
    ∙ ap (λ (xs : List Lock). quiet (record v { holdings = record v.holdings { refs = []; typed = []; locks = xs } })) locks

-- what a demand asks was taken
pub took_stands : (v y : PortValue) (d : Demand) (owner : ℕ) (e : Lock) → Stands v v [] [] (e ∷ []) v.holdings.old0 v.holdings.old1 → LeavesDemand v y d owner (Ok tt) →
    Stands v y (refs_of d owner) (typed_of d owner) (e ∷ []) v.holdings.old0 v.holdings.old1
took_stands v y Nothing owner e self leaves = leaves ∙ self
took_stands v y Bad owner e self leaves = leaves ∙ self
took_stands v y (Read g) owner e self leaves = leaves ∙ ap (λ (q : PortValue). quiet (record q { holdings = record q.holdings { refs = record { frame = g; owner = owners.Of owner } ∷ q.holdings.refs } })) self
took_stands v y (Typed g t) owner e self leaves = leaves ∙ ap (λ (q : PortValue). quiet (record q { holdings = record q.holdings { typed = live_typed g t (owners.Of owner) ∷ q.holdings.typed } })) self

-- or it was not to be had
pub untaken_stands : (v y : PortValue) (d : Demand) (owner : ℕ) (e : Lock) (stop : Stop) → Stands v v [] [] (e ∷ []) v.holdings.old0 v.holdings.old1 → LeavesDemand v y d owner (Err stop) →
    (a : Option ℕ) × Stands v y [] [] (e ∷ []) a v.holdings.old1
untaken_stands v y d owner e stop self leaves = (leaves.0, leaves.1 ∙ ap (λ (q : PortValue). quiet (record q { holdings = record q.holdings { old0 = leaves.0 } })) self)

-- the entry was loaded, or is as it was found
pub changed_lock_here : (f i word : ℕ) (e : Lock) → e.frame ≡ f → changed_lock f (learned_lock i word) (e ∷ []) ≡ learned_lock i word e ∷ []
unfolding changed_by
changed_lock_here f i word e at = rw (when_eq e.frame f at) refl

module _ (f i word : ℕ) where
  abbrev learned_port : PortValue → PortValue
  learned_port q = quiet (record q { holdings = learned_cell f i word q.holdings })

  -- with nothing in work and nothing claimed the lock alone learns it
  learned_is : (v : PortValue) (rs : List Reference) (ys : List TypedReference) (e : Lock) (a b : Option ℕ) → e.frame ≡ f → v.holdings.works ≡ [] → v.holdings.claimed ≡ [] →
      learned_port (with_parts v rs ys (e ∷ []) a b) ≡ with_parts v rs ys (learned_lock i word e ∷ []) a b
  unfolding changed_by
  learned_is v rs ys e a b at works claimed =
      ap (λ ls. quiet (record v { holdings = record v.holdings { refs = rs; typed = ys; locks = ls; old0 = a; old1 = b; works = changed_work f (learned_work i word) v.holdings.works; claimed = changed_claim f (learned_claim i word) v.holdings.claimed } })) (changed_lock_here f i word e at)
      ∙ ap (λ ws. quiet (record v { holdings = record v.holdings { refs = rs; typed = ys; locks = learned_lock i word e ∷ []; old0 = a; old1 = b; works = ws; claimed = changed_claim f (learned_claim i word) v.holdings.claimed } }))
      (ap (changed_work f (learned_work i word)) works ∙ sym works)
      ∙ ap (λ (cs : List Claimed). quiet (record v { holdings = record v.holdings { refs = rs; typed = ys; locks = learned_lock i word e ∷ []; old0 = a; old1 = b; claimed = cs } })) (ap (changed_claim f (learned_claim i word)) claimed ∙ sym claimed)

module _ (v y z : PortValue) (f i : ℕ) (e : Lock) (rs : List Reference) (ys : List TypedReference) (a b : Option ℕ) (at : e.frame ≡ f) (works : v.holdings.works ≡ []) (claimed : v.holdings.claimed ≡ []) (stands : Stands v y rs ys (e ∷ []) a b) where
  pub lock_here : lock_on f y.holdings.locks ≡ Some e
  lock_here = ap (λ ls. lock_on f ls) (locks_are v y rs ys (e ∷ []) a b stands) ∙ first_by-cons_here (λ (x : Lock). x.frame) f e [] at

  pub unset_stands : (word : ℕ) → Holds y z (entry_unset f i word y.holdings) → Stands v z rs ys (learned_lock i word e ∷ []) a b
  unset_stands word holds = ap quiet holds ∙ ap (learned_port f i word) stands ∙ learned_is f i word v rs ys e a b at works claimed

  -- where both ask the same the references stay
  pub kept_stands : (new old : ℕ) → keeps_demand e i new ≡ true → Holds y z (entry_set f i new old y.holdings) → Stands v z rs ys (learned_lock i new e ∷ []) a b
  kept_stands new old keeps holds =
      ap quiet holds ∙ ap (λ (h : Holdings). quiet (record y { holdings = learned_cell f i new h })) (ap (λ l. exchanged i new old l y.holdings) lock_here ∙ kept_hand) ∙ ap (learned_port f i new) stands ∙ learned_is f i new v rs ys e a b at works claimed
    where
      kept_hand : exchanged i new old (Some e) y.holdings ≡ y.holdings
      kept_hand = rw keeps refl

-- else the new demand went out of the hand, and the old one came into it
module _ (v y z : PortValue) (f i : ℕ) (e : Lock) (d : Demand) (owner : ℕ) (a b : Option ℕ) (at : e.frame ≡ f) (works : v.holdings.works ≡ []) (claimed : v.holdings.claimed ≡ [])
    (stands : Stands v y (refs_of d owner) (typed_of d owner) (e ∷ []) a b) where
  out_stands : quiet (record y { holdings = demand_out d y.holdings }) ≡ with_parts v [] [] (e ∷ []) a b
  out_stands = by_demand d stands
    where
      by_demand : (x : Demand) → Stands v y (refs_of x owner) (typed_of x owner) (e ∷ []) a b → quiet (record y { holdings = demand_out x y.holdings }) ≡ with_parts v [] [] (e ∷ []) a b
      by_demand Nothing s = s
      by_demand Bad s = s
      by_demand (Read g) s =
          ap (λ (q : PortValue). quiet (record q { holdings = record q.holdings { refs = without_ref g q.holdings.refs } })) s
          ∙ ap (λ xs. with_parts v xs [] (e ∷ []) a b) (without_newest (λ (x : Reference). x.frame) g (record { frame = g; owner = owners.Of owner }) [] (refs_of (Read g) owner) refl refl)
      by_demand (Typed g t) s =
          ap (λ (q : PortValue). quiet (record q { holdings = record q.holdings { typed = without_typed g q.holdings.typed } })) s
          ∙ ap (λ xs. with_parts v [] xs (e ∷ []) a b) (without_newest (λ (x : TypedReference). x.frame) g (live_typed g t (owners.Of owner)) [] (typed_of (Typed g t) owner) refl refl)

  steps_out : (k : ℕ → PortValue → PortValue) (x : Demand) → k (length (demand_out x y.holdings).steps) (record y { holdings = demand_out x y.holdings }) ≡ k (length y.holdings.steps) (record y { holdings = demand_out x y.holdings })
  steps_out k Nothing = refl
  steps_out k Bad = refl
  steps_out k (Read h) = refl
  steps_out k (Typed h t) = refl

  in_stands : (new : ℕ) (c : Demand) → quiet (record y { holdings = learned_cell f i new (demand_in true c (demand_out d y.holdings)) }) ≡ learned_port f i new (with_parts v (refs_from c (length y.holdings.steps)) (typed_from c (length y.holdings.steps)) (e ∷ []) a b)
  in_stands new Nothing = ap (learned_port f i new) out_stands
  in_stands new Bad = ap (learned_port f i new) out_stands
  in_stands new (Read g) =
      steps_out (λ n (q : PortValue). learned_port f i new (record q { holdings = record q.holdings { refs = record { frame = g; owner = owners.Since n } ∷ q.holdings.refs } })) d
      ∙ ap (λ (q : PortValue). learned_port f i new (record q { holdings = record q.holdings { refs = record { frame = g; owner = owners.Since (length y.holdings.steps) } ∷ q.holdings.refs } })) out_stands
  in_stands new (Typed g t) =
      steps_out (λ n (q : PortValue). learned_port f i new (record q { holdings = record q.holdings { typed = live_typed g t (owners.Since n) ∷ q.holdings.typed } })) d
      ∙ ap (λ (q : PortValue). learned_port f i new (record q { holdings = record q.holdings { typed = live_typed g t (owners.Since (length y.holdings.steps)) ∷ q.holdings.typed } })) out_stands

  pub changed_stands : (new old : ℕ) → keeps_demand e i new ≡ false → demand_at e.kind i new ≡ d → Holds y z (entry_set f i new old y.holdings) →
      Stands v z (refs_from (demand_at e.kind i old) (length y.holdings.steps)) (typed_from (demand_at e.kind i old) (length y.holdings.steps)) (learned_lock i new e ∷ []) a b
  changed_stands new old other asks holds =
      ap quiet holds
      ∙ ap (λ (h : Holdings). quiet (record y { holdings = learned_cell f i new h }))
      (ap (λ l. exchanged i new old l y.holdings) (lock_here v y z f i e (refs_of d owner) (typed_of d owner) a b at works claimed stands) ∙ changed_hand ∙ ap (λ x. demand_in true (demand_at e.kind i old) (demand_out x y.holdings)) asks)
      ∙ in_stands new (demand_at e.kind i old)
      ∙ learned_is f i new v (refs_from (demand_at e.kind i old) (length y.holdings.steps)) (typed_from (demand_at e.kind i old) (length y.holdings.steps)) e a b at works claimed
    where
      changed_hand : exchanged i new old (Some e) y.holdings ≡ demand_in true (demand_at e.kind i old) (demand_out (demand_at e.kind i new) y.holdings)
      changed_hand = rw other refl

-- ---- the lock went off
pub off_stands : (v z x : PortValue) (f : ℕ) (rs : List Reference) (ys : List TypedReference) (e : Lock) (a b : Option ℕ) → e.frame ≡ f → Stands v z rs ys (e ∷ []) a b → LeavesUnlocked z x f → (c : Option ℕ) × Stands v x rs ys [] a c
off_stands v z x f rs ys e a b at stands (inl leaves) = (
  b,
  ap quiet leaves ∙ ap (λ (q : PortValue). quiet (record q { holdings = record q.holdings { locks = without_lock f q.holdings.locks } })) stands
      ∙ ap (λ ls. with_parts v rs ys ls a b) (without_newest (λ (l : Lock). l.frame) f e [] (e ∷ []) at refl),
)
off_stands v z x f rs ys e a b at stands (inr leaves) = (
  Some (f + 1),
  ap quiet leaves ∙ ap (λ (q : PortValue). quiet (record q { holdings = record q.holdings { locks = without_lock f q.holdings.locks; old1 = Some (f + 1) } })) stands
      ∙ ap (λ ls. with_parts v rs ys ls a (Some (f + 1))) (without_newest (λ (l : Lock). l.frame) f e [] (e ∷ []) at refl),
)
