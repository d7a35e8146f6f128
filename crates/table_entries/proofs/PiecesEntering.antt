-- The next entry: what its steps are and show, by what became of it.
use Rattle.std.proofs.Common.{◌≡◌, ℕ, [], Bool, Option, Some, None, Ok, Err, subst, false, sym, ap, ◌∙◌}
use Rattle.xp_words.specs.Entries.{below, demand_at}
use Rattle.xp_words.specs.declared.kind.PageType.{PageType}
use Rattle.xp_words.specs.declared.place.Place.TheVariants.{Clock}
use Rattle.xp_words.specs.declared.reply.Stop.{Stop}
use Rattle.xp_board.specs.declared.step.Act.TheVariants.{Load}
use Rattle.xp_board.specs.declared.step.Mark.TheVariants.{Record}
use Rattle.xp_board.specs.Told.{PortValue}
use Rattle.step_maker.specs.Moves.{Came, Met, Moves}
use Rattle.step_maker.proofs.Coming.{came_trans, moves_came}
use Rattle.step_maker.specs.Answers.{Serves, Stops, missed}
use Rattle.step_maker.specs.Asked.{Asked, NoMore, of_back, of_frame}
use Rattle.step_maker.proofs.Piecing.{asked_less, serves_came, stops_before}
use Rattle.frame_types.specs.Leaving.{ServesType}
use Rattle.frame_types.specs.Taking.{IsTypeStop}
use Rattle.frame_words.specs.Refs.{IsRefStop}
use Rattle.flush_waits.specs.Waiting.{IsWait}
use Rattle.table_entries.specs.Asking.{AsksBelow, IsEntryStop, ShowsEntered, of_entries}
use Rattle.table_entries.specs.Between.{LooksAgain, LooksLive, Meets, found, outside}
use Rattle.table_entries.specs.declared.entries.Entered.TheVariants.{Unsettled}
use Rattle.table_entries.proofs.PiecesTaking.{Goes, asks_still, goes_back, goes_call, goes_came, goes_missed, goes_record, goes_stops, goes_stops_later, left_serves, record_shows, ref_kinds, type_kinds, wait_kinds, wait_missed, goes_kind}
use Rattle.xp_words.specs.declared.entry.Demand.TheVariants.{Typed}
use Rattle.xp_board.specs.Hands.{work_on}
use Rattle.table_entries.proofs.HandAgain.{live_came}
use Rattle.table_entries.proofs.PiecesAsking.{asks_typed, look_more, looked_goes}
use Rattle.xp_board.specs.declared.step.StepKind.TheVariants as kinds

-- the entry is met; or the call stops
pub met : {A : Type 0} {S : A → Type 0} {a : A} {b w : PortValue} {f i owner pages : ℕ} → Goes b w f i owner pages [] → S a → Meets b w f i owner pages S (Ok a)
met goes shows = record { serves = goes.serves; stops = tt; kinds = tt; shows = shows; looks = goes.looks }

pub unmet : {A : Type 0} {S : A → Type 0} {e : Stop} {b w : PortValue} {f i owner pages : ℕ} → Goes b w f i owner pages (missed b.post.machine e) → Stops b w (of_entries owner pages) e → IsEntryStop e → Meets b w f i owner pages S (Err e)
unmet goes stops kinds = record { serves = goes.serves; stops = stops; kinds = kinds; shows = tt; looks = goes.looks }

-- ---- behind the looks: the frame that the entry asks is asked so
module _ {b v : PortValue} {f i owner pages : ℕ} (g : ℕ) (want : Option PageType) (goes : Goes b v f i owner pages []) (asks : Asked b.post.machine b.post.vcpu (of_entries owner pages) (Met b v) g owner want) where
  asks_ref : Asked b.post.machine b.post.vcpu (of_entries owner pages) (Met b v) g owner None
  asks_ref = asked_less b.post.machine b.post.vcpu (of_entries owner pages) (Met b v) g owner None want tt asks

  -- its reference is not to be had
  pub unreferred : {A : Type 0} {S : A → Type 0} {x : PortValue} {e : Stop} → NoMore (of_entries owner pages) v.holdings b.holdings → IsRefStop e → Serves v x (of_frame g owner None) (missed v.post.machine e) →
      Stops v x (of_frame g owner None) e → Meets b x f i owner pages S (Err e)
  unreferred {A} {S} {x} {e} more is serves stops =
      unmet (goes_missed b v x f i owner pages e (goes_came goes) (goes_call goes x g None asks_ref (missed v.post.machine e) serves))
      (goes_stops goes x g None asks_ref e (serves_came v x (of_frame g owner None) (missed v.post.machine e) serves) more stops) (ref_kinds e is)

  -- its reference was taken
  module _ (x : PortValue) (refers : Serves v x (of_frame g owner None) []) where
    pub referred : Goes b x f i owner pages []
    referred = goes_call goes x g None asks_ref [] refers

    pub asks_referred : Asked b.post.machine b.post.vcpu (of_entries owner pages) (Met b x) g owner want
    asks_referred = asks_still goes x g want asks (serves_came v x (of_frame g owner None) [] refers)

-- ---- behind its reference: the entry asks that type of the frame
module _ {b x : PortValue} {f i owner pages : ℕ} (g : ℕ) (want : PageType) (goes : Goes b x f i owner pages []) (asks : Asked b.post.machine b.post.vcpu (of_entries owner pages) (Met b x) g owner (Some want)) where
  -- it was taken
  pub typed : (y : PortValue) → Serves x y (of_frame g owner (Some want)) [] → Goes b y f i owner pages []
  typed y types = goes_call goes y g (Some want) asks [] types

  -- and is asked still, which is the type of the level below
  pub still_below : (y : PortValue) → Serves x y (of_frame g owner (Some want)) [] → (t : PageType) → want ≡ below t → AsksBelow b y owner pages t g
  still_below y types t is =
      subst (λ k. Asked b.post.machine b.post.vcpu (of_entries owner pages) (Met b y) g owner (Some k)) is (asks_still goes y g (Some want) asks (serves_came x y (of_frame g owner (Some want)) [] types))

  -- it is not to be had, and the reference was given back
  pub untyped : {A : Type 0} {S : A → Type 0} {z : PortValue} {e : Stop} → (y : PortValue) → IsTypeStop e → Serves x y (of_frame g owner (Some want)) (missed x.post.machine e) → Stops x y (of_frame g owner (Some want)) e → Serves y z (of_back g) [] →
      Meets b z f i owner pages S (Err e)
  untyped {A} {S} {z} {e} y is types stops back =
      let came = serves_came x y (of_frame g owner (Some want)) (missed x.post.machine e) types in
      let there = goes_missed b x y f i owner pages e (goes_came goes) (goes_call goes y g (Some want) asks (missed x.post.machine e) types) in
      unmet (goes_back there z g (Some want) (asks_still goes y g (Some want) asks came) back)
      (stops_before b y z (of_entries owner pages) e (goes_stops_later goes y g (Some want) asks e came is stops) (serves_came y z (of_back g) [] back)) (type_kinds e is)

  -- it waits for a flush
  module _ (y : PortValue) (stop : Stop) (is : IsWait stop) (types : Serves x y (of_frame g owner (Some want)) []) (stops : Stops x y (of_frame g owner (Some want)) stop) where
    pub waits_stops : Stops b y (of_entries owner pages) stop
    waits_stops = goes_stops_later goes y g (Some want) asks stop (serves_came x y (of_frame g owner (Some want)) [] types) (wait_kinds stop is) stops

    -- and the frame is left so
    module _ (z : PortValue) (left : ServesType y z g want) where
      left_goes : Goes b z f i owner pages []
      left_goes =
          goes_call (typed y types) z g (Some want) (asks_still goes y g (Some want) asks (serves_came x y (of_frame g owner (Some want)) [] types)) [] (left_serves y z g owner want left)

      left_came : Came y z
      left_came = serves_came y z (of_frame g owner (Some want)) [] (left_serves y z g owner want left)

      pub enters_left : {A : Type 0} {S : A → Type 0} → Meets b z f i owner pages S (Err stop)
      enters_left = unmet (wait_missed b z f i owner pages stop is left_goes) (stops_before b y z (of_entries owner pages) stop waits_stops left_came) (type_kinds stop (wait_kinds stop is))

      pub enters_unsettled : (t : PageType) {w : PortValue} {k upto clock : ℕ} → Moves z w Clock Load kinds.Look (Some (Record k upto)) clock → Meets b w f i owner pages (λ a. ShowsEntered b w owner pages t a) (Ok (Unsettled stop))
      enters_unsettled t {w} {k} {upto} {clock} m =
          let late = came_trans y z w left_came (moves_came z w Clock Load kinds.Look (Some (Record k upto)) clock m) in
          met (goes_record left_goes m) (record_shows left_goes m, is, stops_before b y w (of_entries owner pages) stop waits_stops late)

-- ---- The last recorded entry again: what its steps are and show, by what became of it.
-- ---- the look at the frame itself
pub live_goes : (b u v : PortValue) (f i owner pages g : ℕ) (live : Bool) → Goes b u f i owner pages [] → LooksLive u v g live → Goes b v f i owner pages []
live_goes b u v f i owner pages g _ goes (outside past is) = subst (λ x. Goes b x f i owner pages []) (sym is) goes
live_goes b u v f i owner pages g _ goes (found word live inside m same is) = goes_kind goes v g word m

live_more : (b u v : PortValue) (owner pages g : ℕ) (live : Bool) → NoMore (of_entries owner pages) u.holdings b.holdings → LooksLive u v g live → NoMore (of_entries owner pages) v.holdings b.holdings
live_more b u v owner pages g _ more (outside past is) = subst (λ (x : PortValue). NoMore (of_entries owner pages) x.holdings b.holdings) (sym is) more
live_more b u v owner pages g _ more (found word live inside m same is) = λ h.
    let works = ap (λ (x : PortValue). work_on h x.holdings.works) same in
    record {
      refs = λ away. rw (ap (λ (x : PortValue). x.holdings.refs) same) ((more h).refs (λ asks. sym works ∙ away asks));
      works = λ away. (more h).works (sym works ∙ away);
      typed = λ off. absurd cc;
    }

-- ---- behind both looks
module _ {b u v : PortValue} {f i : ℕ} (owner pages : ℕ) {t : PageType} {word g : ℕ} {want : PageType} (looks : LooksAgain b u f i t word) (asks : demand_at t i word ≡ Typed g want) (other : LooksLive u v g false) where
  pub again_goes : Goes b v f i owner pages []
  again_goes = live_goes b u v f i owner pages g false (looked_goes looks.looks owner pages) other

  pub again_more : NoMore (of_entries owner pages) v.holdings b.holdings
  again_more = live_more b u v owner pages g false (look_more looks.looks owner pages) other

  pub again_asks : Asked b.post.machine b.post.vcpu (of_entries owner pages) (Met b v) g owner (Some want)
  again_asks = asks_still (looked_goes looks.looks owner pages) v g (Some want) (asks_typed looks.looks owner pages looks.works g want asks) (live_came u v g false other)
