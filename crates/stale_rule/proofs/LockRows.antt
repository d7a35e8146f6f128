-- Fresh after a store into an entry of a table under the own lock.
use Rattle.std.proofs.Common.{◌≡◌, ℕ, ◌<◌, ◌||◌, inl, inr, true, sym, ◌∙◌, ap, subst, arith, IsTrue, Option, Some}
use Rattle.std.proofs.lemmas.Bool.{or_left}
use Rattle.xp_words.specs.declared.kind.PageType.{PageType}
use Rattle.xp_words.specs.declared.entry.Demand.{Demand}
use Rattle.xp_words.specs.declared.entry.Demand.TheVariants.{Nothing, Bad, Read, Typed}
use Rattle.xp_words.specs.Entries.{demand_at}
use Rattle.xp_words.specs.Machine.{Machine}
use Rattle.xp_words.specs.declared.place.Place.{Place}
use Rattle.xp_words.specs.declared.place.Place.TheVariants.{Refs, Cell, Priv}
use Rattle.xp_words.specs.Places.{sizes_of}
use Rattle.xp_board.specs.declared.step.Step.{Step}
use Rattle.xp_board.specs.declared.step.StepKind.TheVariants as steps
use Rattle.xp_board.specs.declared.holdings.Lock.{Lock}
use Rattle.xp_board.specs.declared.holdings.Holdings.{Holdings}
use Rattle.xp_board.specs.Steps.{some_since}
use Rattle.xp_board.specs.Readings.{kind_at, ref_count, owner_of, domain_of, has_now, has_ever}
use Rattle.xp_board.specs.Hands.{refs_to, lock_on, hand}
use Rattle.xp_board.specs.Settling.{HasDemand, OwnersMeet}
use Rattle.xp_board.specs.After.{noted}
use Rattle.xp_board.specs.FillSteps.{is_walked}
use Rattle.xp_board.specs.Valid.{PermitsOwner, EntryPermitted}
use Rattle.xp_board.specs.Reach.{Table, cached, walked}
use Rattle.xp_board.specs.Fresh.{Fresh}
use Rattle.xp_board.specs.Keeping.{Acted}
use Rattle.xp_board.specs.Sound.{Sound}
use Rattle.step_effects.proofs.ActEffects.{Wrote, Exchanged, Rewrote}
use Rattle.stale_rule.proofs.CameFresh.{Came, came_fresh, live_matches}
use Rattle.stale_rule.proofs.CellLaw.{written_law}
use Rattle.stale_rule.proofs.Like.{HandStays, then_stays, cell_stays, in_stays, out_stays}
use Rattle.stale_rule.proofs.Served.{Served, AsksWell, typed_counted, target_served, served_owner, recorded_well, Granted}
use Rattle.xp_board.proofs.RefWords.{owner_few}
use Rattle.xp_board.proofs.LockFacts.{lock_facts, rewritten_same}
use Rattle.xp_board.proofs.Counted.{in_hand_counted}
use Rattle.xp_board.proofs.CellAlike.{not_reads}
use Rattle.xp_board.proofs.MoreSteps.{since_each, since_later}
use Rattle.xp_board.proofs.ReachAll.{reach_level}
use Rattle.xp_board.proofs.Serving.{asks_hand}
use Rattle.xp_board.proofs.CountsDown.{lock_live, lock_some}

some_is : (x y : ℕ) (o : Option ℕ) → o ≡ Some x → o ≡ Some y → x ≡ y
some_is x y o a b = let e : Some x ≡ Some y = sym a ∙ b in cc

module _ (n : Machine) (s : ℕ) (m : Place → ℕ) (b : ℕ → Holdings) (real : s < (sizes_of n).vcpus) (sound : Sound n m b) where
  -- ---- a demand in hand
  ever_had : (t o since : ℕ) → o < 16 → IsTrue (some_since (sizes_of n) since (Priv t) (has_now o) (b s).steps) → IsTrue (has_ever o (m (Priv t)))
  ever_had t o since few was_found =
      since_each (sizes_of n) since (Priv t) (has_now o) (λ w. IsTrue (has_now o w || has_ever o w) → IsTrue (has_ever o (m (Priv t)))) (IsTrue (has_ever o (m (Priv t)))) (b s).steps
      (since_later (sizes_of n) 0 since (Priv t) _ (b s).steps (omega arith) ((sound.found s real).privileges t o few)) was_found
      (λ w now had. had (or_left (has_now o w) (has_ever o w) now))

  meets : (f g d : ℕ) (kind : PageType) → owner_of (m (Refs f)) ≡ Some d → OwnersMeet n f g kind (b s) → EntryPermitted m kind (Some d) g
  meets f g d kind owner may =
      let table = (sound.found s real).owners f may.table may.table_known in
      let frame = (sound.found s real).owners g may.frame may.frame_known in
      let same = some_is may.table d (owner_of (m (Refs f))) table owner in
      elim may.meet [
        | inl one ↦ inl (frame ∙ ap Some (one ∙ same))
        | inr lowest ↦
            inr (
              lowest.0,
              subst (λ o. PermitsOwner m d o) (sym frame)
                  (inr (subst (λ k. IsTrue (has_ever may.frame (m (Priv k)))) same (ever_had may.table may.frame _ (owner_few n m b g may.frame sound frame) lowest.1))),
            )
      ]

  plain_counted : (g : ℕ) → 0 < refs_to g (b s).refs → 0 < ref_count (m (Refs g))
  plain_counted g held = let counted = in_hand_counted (sizes_of n) m b s g real sound.counts held in omega arith

  has_granted : (f d : ℕ) (kind : PageType) (q : Demand) → owner_of (m (Refs f)) ≡ Some d → HasDemand n f kind (b s) q → Granted m kind d q
  has_granted f d kind Nothing owner may = tt
  has_granted f d kind Bad owner may = tt
  has_granted f d kind (Read g) owner may = (plain_counted g may.in_hand, meets f g d kind owner may.owners)
  has_granted f d kind (Typed g t) owner may =
      let live = asks_hand n m b sound f s real kind (Typed g t) may in
      (typed_counted n m b g sound live.0 live.1, meets f g d kind owner may.0.owners)

  has_well : (f d : ℕ) (kind : PageType) (q : Demand) → owner_of (m (Refs f)) ≡ Some d → HasDemand n f kind (b s) q → AsksWell m kind d q
  has_well f d kind q owner may = (asks_hand n m b sound f s real kind q may, has_granted f d kind q owner may)

  -- ---- the locked table
  pub locked_live : (f : ℕ) (e : Lock) → lock_on f (b s).locks ≡ Some e →
      ((kind_at m f).validated ≡ true) × (0 < (kind_at m f).number) × ((kind_at m f).kind ≡ e.kind) × (e.frame ≡ f)
  locked_live f e here =
      let k = lock_facts n m b s f e sound real here in
      (lock_live n m b sound s real f k.some, lock_some n m b sound s real f k.some, k.kind, k.frame)

  -- a live and counted table that is come to serves
  table_served : (v level f : ℕ) → v < (sizes_of n).vcpus → (kind_at m f).validated ≡ true → 0 < (kind_at m f).number → Came n m b v f (Table level) →
      Served m (domain_of n v) f (Table level)
  table_served v level f live alive number (inr (inl served)) = served
  table_served v level f live alive number (inr (inr read)) = absurd (not_reads level read.0)
  table_served v level f live alive number (inl r) =
      record {
        serves = record {
          level = reach_level n m b sound v f (Table level) live r;
          live = λ k. alive;
          number = λ k. number;
          matches = λ k. live_matches n m b sound v f (Table level) live alive (not_reads level) r;
        };
        counted = typed_counted n m b f sound alive number;
        owner = (came_fresh n m b sound v f (Table level) live (inl r)).owner;
      }

module _ (n : Machine) (s : ℕ) (x : Step) (m m2 : Place → ℕ) (b c : ℕ → Holdings) (real : s < (sizes_of n).vcpus) (acted : Acted n s x m m2 b c) (sound : Sound n m b) where
  -- a store into an entry of a table under the own lock that asks what is there
  entry_law : (f i : ℕ) (e : Lock) (y : Holdings) → Wrote n x (Cell f i) steps.Cell m m2 (b s) → lock_on f (b s).locks ≡ Some e → c s ≡ noted x (m (Cell f i)) y → HandStays (b s) y →
      ((d level : ℕ) → Served m d f (Table level) → IsTrue (is_walked level i) → AsksWell m (kind_at m f).kind d (demand_at (kind_at m f).kind i (m2 (Cell f i)))) → Fresh n m2 c
  entry_law f i e y wrote here hand stays asks =
      let lock = locked_live n s m b real sound f e here in
      written_law n s x f i steps.Cell m m2 b c y real sound acted.others wrote hand stays.like stays.claims
      (λ k t. inl (cached k (stays.cache k t))) (λ k t. inl (walked k (stays.walk k t)))
      (λ v live level came walks present inside.
      let served = table_served n s m b real sound v level f live lock.0 lock.1 came in
      inr (inl (target_served m (domain_of n v) f level i (m2 (Cell f i)) served walks present (asks (domain_of n v) level served walks))))

  pub exchange_row : (f i : ℕ) → Exchanged n x f i m m2 (b s) (c s) → Fresh n m2 c
  exchange_row f i d =
      let lock = locked_live n s m b real sound f d.e d.here in
      entry_law f i d.e _ d.wrote d.here d.hand
      (then_stays _ _ _ (then_stays _ _ _ (out_stays (demand_at d.e.kind i (m2 (Cell f i))) (b s)) (in_stays true (demand_at d.e.kind i (m (Cell f i))) _)) (cell_stays f i (m2 (Cell f i)) _))
      (λ e level served walks.
      has_well n s m b real sound f e (kind_at m f).kind (demand_at (kind_at m f).kind i (m2 (Cell f i))) (served_owner m e level f served)
      (subst (λ t. HasDemand n f t (b s) (demand_at t i (m2 (Cell f i)))) (sym lock.2) d.may))

  pub rewrite_row : (f i : ℕ) → Rewrote n x f i m m2 (b s) (c s) → Fresh n m2 c
  rewrite_row f i d =
      let same = rewritten_same n m b s f i (m2 (Cell f i)) d.e (lock_facts n m b s f d.e sound real d.here) d.same in
      entry_law f i d.e _ d.wrote d.here d.hand (cell_stays f i (m2 (Cell f i)) (b s))
      (λ e level served walks. subst (λ q. AsksWell m (kind_at m f).kind e q) (sym same) (recorded_well n m b sound e level f i served walks))
