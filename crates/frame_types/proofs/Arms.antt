-- What a call that takes a type ensures, by each of its ways.
use Rattle.std.proofs.Common.{◌≡◌, ◌≢◌, ℕ, not, Bool, true, false, [], Some, None, Ok, Err, IsTrue, refl, sym, ap, ◌∙◌, subst}
use Rattle.std.proofs.lemmas.Bool.{or_right}
use Rattle.xp_words.specs.declared.kind.KindWord.{KindWord}
use Rattle.xp_words.specs.declared.kind.PageType.{PageType}
use Rattle.xp_words.specs.declared.place.Place.TheVariants.{Kind}
use Rattle.xp_words.specs.declared.reply.Pause.TheVariants.{Lost, Busy}
use Rattle.xp_words.specs.declared.reply.Refusal.TheVariants.{OtherType}
use Rattle.xp_words.specs.declared.reply.Stop.{Stop}
use Rattle.xp_words.specs.declared.reply.Stop.TheVariants.{Refused, Paused}
use Rattle.xp_words.specs.KindWords.{is_kind, kind_read, kind_write}
use Rattle.xp_words.specs.PageTypes.{is_none, type_number}
use Rattle.xp_words.specs.Places.{number, sizes_of}
use Rattle.xp_board.specs.declared.step.Act.TheVariants.{Load, Cas}
use Rattle.xp_board.specs.declared.step.StepKind.TheVariants as kinds
use Rattle.xp_board.specs.KindSteps.{begun_kind, is_stale, raised_kind, resumed_kind}
use Rattle.xp_board.specs.Readings.{is_dead, is_type}
use Rattle.xp_board.specs.Told.{Post, PortValue}
use Rattle.xp_board.proofs.KindForms.{fields_of}
use Rattle.xp_board.proofs.Sums.{when_eq}
use Rattle.step_maker.specs.Holds.{Holds}
use Rattle.step_maker.specs.Moves.{Moves, Came, Met}
use Rattle.step_maker.proofs.Coming.{moment_of, moves_met, moves_came, met_before, came_trans, came_post}
use Rattle.step_maker.specs.Answers.{Serves}
use Rattle.step_maker.specs.Asked.{of_back, of_frame}
use Rattle.step_maker.specs.Finding.{FoundWith}
use Rattle.step_maker.specs.Reasons.{AwaitsStamp, OfOwner, marked, other}
use Rattle.step_maker.proofs.Piecing.{serves_back, serves_came}
use Rattle.frame_words.proofs.Taking.{names_itself}
use Rattle.kind_words.proofs.KindWriting.{begun_is, resumed_is}
use Rattle.kind_words.specs.Kinds.{counted_type, looked_at}
use Rattle.frame_types.specs.declared.taking.Taken.{Taken}
use Rattle.frame_types.specs.declared.taking.Taken.TheVariants.{Counted}
use Rattle.frame_types.specs.Taking.{AwaitedThere, Enters, HoldsOn, Looked, ServesOn, Takes, WaitsOn, progress_of, stamp_by}
use Rattle.frame_types.proofs.Classing.{IsInHand, IsOther, IsParted, dead_unpinned}
use Rattle.frame_types.proofs.Coming.{counted_hand, lost_same}
use Rattle.frame_types.proofs.Exchanging.{asked, busy_stops, exchange_lost, exchange_misses, exchange_serves, looked, other_stops, passed}

module _ (b v : PortValue) (f owner : ℕ) (want : PageType) (word : ℕ) (l : Looked b v f owner want word) where
  -- ---- the look alone
  pub busy_takes : (k : KindWord) → kind_read word ≡ Some k → IsInHand k want → Takes b v f owner want (Err (Paused (Busy f word)))
  busy_takes k read is = record { serves = looked b v f owner want word l; stops = busy_stops b v f owner want word l k read is; kinds = tt; waits = tt; hand = l.same }

  pub other_takes : (k : KindWord) → kind_read word ≡ Some k → IsOther k want → Takes b v f owner want (Err (Refused (OtherType f want word)))
  other_takes k read is = record { serves = looked b v f owner want word l; stops = other_stops b v f owner want word l k read is; kinds = tt; waits = tt; hand = l.same }

  -- ---- the exchange
  module _ (w : PortValue) (k new : KindWord) (is : IsTrue (is_kind k)) (next : IsTrue (is_kind new)) (kind : new.kind ≡ want) (pin : new.pinned ≡ k.pinned) (was : word ≡ kind_write k) where
    pub lost_takes : (found : ℕ) → Moves v w (Kind f) (Cas (kind_write k) (kind_write new)) kinds.Kind None found → found ≢ kind_write k → Holds v w (looked_at f found v.holdings) →
        (stop : Stop) → stop ≡ Paused (Lost (number (sizes_of w.post.machine) (Kind f)) word found) → Takes b w f owner want (Err stop)
    lost_takes found change off holds stop stops =
        let came = came_trans b v w (moves_came b v (Kind f) Load kinds.Look None word l.look) (moves_came v w (Kind f) (Cas (kind_write k) (kind_write new)) kinds.Kind None found change) in
        let place = number (sizes_of w.post.machine) (Kind f) in
        let at : number (sizes_of w.post.machine) (Kind f) ≡ number (sizes_of b.post.machine) (Kind f) = ap (λ (q : Post). number (sizes_of q.machine) (Kind f)) (came_post b w came) in
        subst (λ e. Takes b w f owner want (Err e)) (sym stops)
        (record {
          serves = exchange_misses b v w f owner want word l k new is next kind pin was found change (number (sizes_of w.post.machine) (Kind f)) at off;
          stops = exchange_lost b v w f owner want word l k new is next kind pin was found change (number (sizes_of w.post.machine) (Kind f)) at off;
          kinds = tt;
          waits = tt;
          hand = lost_same b v f owner want word l w found holds;
        })

    pub came_serves : Moves v w (Kind f) (Cas (kind_write k) (kind_write new)) kinds.Kind None (kind_write k) → Serves b w (of_frame f owner (Some want)) []
    came_serves change = exchange_serves b v w f owner want word l k new is next kind pin was (kind_write k) change refl

  pub counted_takes : (w : PortValue) (k : KindWord) → IsTrue (is_kind k) → IsTrue (is_kind (raised_kind k)) → k.kind ≡ want → word ≡ kind_write k →
      Moves v w (Kind f) (Cas (kind_write k) (kind_write (raised_kind k))) kinds.Kind None (kind_write k) → Holds v w (counted_type f k v.holdings) → Takes b w f owner want (Ok Counted)
  counted_takes w k is next kind was change holds =
      record { serves = came_serves w k (raised_kind k) is next kind refl was change; stops = tt; kinds = tt; waits = tt; hand = counted_hand b v f owner want word l k w kind holds }

  -- ---- what the flush waits for
  found_with : (w : PortValue) → Came v w → FoundWith (Met b w) (Kind f) word b.holdings
  unfolding moment_of
  found_with w came =
      record { moment = moment_of b (Kind f) Load kinds.Look None word; was = met_before b v w _ (moves_met b v (Kind f) Load kinds.Look None word l.look) came; place = refl; word = refl; hand = refl }

  here_awaits : (w : PortValue) (stamp : ℕ) → Came v w → AwaitsStamp b.post.machine b.post.vcpu (of_frame f owner (Some want)) (Met b w) (OfOwner owner) stamp → AwaitsStamp w.post.machine w.post.vcpu (of_frame f owner (Some want)) (Met b w) (OfOwner owner) stamp
  here_awaits w stamp came awaits =
      subst (λ (q : Post). AwaitsStamp q.machine q.vcpu (of_frame f owner (Some want)) (Met b w) (OfOwner owner) stamp) (sym (came_post b w (came_trans b v w (moves_came b v (Kind f) Load kinds.Look None word l.look) came))) awaits

  pub dead_awaits : (w : PortValue) (k : KindWord) → Came v w → kind_read word ≡ Some k → IsTrue (is_dead k) → AwaitedThere b w f owner want (is_stale k want) k.number
  dead_awaits w k came read dead on =
      let fields = fields_of word k read in
      here_awaits w k.number came
      (other f word owner want b.holdings (asked b v f owner want word l b.post.machine b.post.vcpu (Met b w)) (found_with w came) (passed b v f owner want word l (Met b w)) (rw fields dead) (rw fields on) refl
      (ap (λ (y : KindWord). y.number) (sym fields)))

  pub partial_awaits : (w : PortValue) (k : KindWord) → Came v w → kind_read word ≡ Some k → k.kind ≡ want → AwaitedThere b w f owner want k.unflushed k.number
  partial_awaits w k came read kind on =
      let fields = fields_of word k read in
      here_awaits w k.number came
      (marked f word owner want b.holdings (asked b v f owner want word l b.post.machine b.post.vcpu (Met b w)) (found_with w came) (passed b v f owner want word l (Met b w)) (rw fields on)
      (rw fields (or_right (is_dead k) (is_type k.kind want) (ap (λ t. is_type t want) kind ∙ when_eq (type_number want) (type_number want) refl))) refl (ap (λ (y : KindWord). y.number) (sym fields)))

-- ---- behind the exchange
pub goes_takes : (b x w : PortValue) (f owner : ℕ) (want : PageType) (waiting : Bool) (k : KindWord) (own : Bool) (t : Taken) → Serves b x (of_frame f owner (Some want)) [] → AwaitedThere b x f owner want waiting k.number →
    Enters b x f owner want waiting (stamp_by waiting k) (progress_of k) own → ServesOn x w f owner want waiting k.number → WaitsOn x w f owner want waiting k.number t → HoldsOn x w f owner want waiting k own t → Takes b w f owner want (Ok t)
goes_takes b x w f owner want waiting k own t before awaits enters serves waits holds =
    record { serves = serves b [] before awaits; stops = tt; kinds = tt; waits = waits b (serves_came b x (of_frame f owner (Some want)) [] before) awaits; hand = holds b enters }

module _ (b v : PortValue) (f owner : ℕ) (want : PageType) (word : ℕ) (l : Looked b v f owner want word) (k : KindWord) (read : kind_read word ≡ Some k) (is : IsTrue (is_kind k)) (was : word ≡ kind_write k) (x w : PortValue) (t : Taken) where
  -- from dead
  pub dead_takes : IsTrue (is_dead k) → IsTrue (not (is_none want)) → (m : Bool) → m ≡ is_stale k want → Moves v x (Kind f) (Cas (kind_write k) (kind_write (begun_kind k want))) kinds.Kind None (kind_write k) →
      Enters b x f owner want (is_stale k want) (stamp_by (is_stale k want) k) (progress_of k) true →
      ServesOn x w f owner want m k.number → WaitsOn x w f owner want m k.number t → HoldsOn x w f owner want m k true t → Takes b w f owner want (Ok t)
  dead_takes dead wanted m stale change enters serves waits holds =
      let came = moves_came v x (Kind f) (Cas (kind_write k) (kind_write (begun_kind k want))) kinds.Kind None (kind_write k) change in
      goes_takes b x w f owner want m k true t (came_serves b v f owner want word l x k (begun_kind k want) is (begun_is k want is dead wanted) refl (sym (dead_unpinned word k read dead)) was change)
      (subst (λ y. AwaitedThere b x f owner want y k.number) (sym stale) (dead_awaits b v f owner want word l x k came read dead)) (subst (λ y. Enters b x f owner want y (stamp_by y k) (progress_of k) true) (sym stale) enters) serves waits holds

  -- from partial
  module _ (parted : IsParted k want) (change : Moves v x (Kind f) (Cas (kind_write k) (kind_write (resumed_kind k))) kinds.Kind None (kind_write k)) where
    resumed_serves : Serves b x (of_frame f owner (Some want)) []
    resumed_serves = came_serves b v f owner want word l x k (resumed_kind k) is (resumed_is k is parted.partial) parted.kind refl was change

    resumed_came : Came v x
    resumed_came = moves_came v x (Kind f) (Cas (kind_write k) (kind_write (resumed_kind k))) kinds.Kind None (kind_write k) change

    pub unkept_takes : Enters b x f owner want k.unflushed (stamp_by k.unflushed k) (progress_of k) false → ServesOn x w f owner want k.unflushed k.number → WaitsOn x w f owner want k.unflushed k.number t → HoldsOn x w f owner want k.unflushed k false t →
        Takes b w f owner want (Ok t)
    unkept_takes enters serves waits holds =
        goes_takes b x w f owner want k.unflushed k false t resumed_serves (partial_awaits b v f owner want word l x k resumed_came read parted.kind) enters serves waits holds

    -- behind the reference that is given back
    pub kept_takes : (y : PortValue) → Serves x y (of_back f) [] → Enters b y f owner want k.unflushed (stamp_by k.unflushed k) (progress_of k) true → ServesOn y w f owner want k.unflushed k.number → WaitsOn y w f owner want k.unflushed k.number t →
        HoldsOn y w f owner want k.unflushed k true t → Takes b w f owner want (Ok t)
    kept_takes y puts enters serves waits holds =
        let back = serves_back b x y (of_frame f owner (Some want)) [] [] resumed_serves f (names_itself b.post.machine b.post.vcpu f owner (Some want) (Met b y)) puts in
        goes_takes b y w f owner want k.unflushed k true t back (partial_awaits b v f owner want word l y k (came_trans v x y resumed_came (serves_came x y (of_back f) [] puts)) read parted.kind) enters serves waits holds
