-- A frame is taken as a descriptor page with a reference of its own: the same, behind the steps that take it.
use Rattle.std.proofs.Common.{◌≡◌, ◌==◌, ◌&&◌, ◌||◌, ℕ, ◌<◌, List, [], ◌∷◌, Option, None, Result, Ok, Err, IsTrue, refl, sym, ap, ◌∙◌, subst, inl, inr, append-nil}
use Rattle.std.proofs.lemmas.Bool.{and_from, and_parts, or_cases, or_left}
use Rattle.xp_words.specs.Places.{Sizes, sizes_of}
use Rattle.xp_words.specs.declared.kind.PageType.{PageType}
use Rattle.xp_words.specs.declared.kind.PageType.TheVariants.{Desc}
use Rattle.xp_words.specs.declared.reply.Pause.TheVariants as pauses
use Rattle.xp_words.specs.declared.reply.Refusal.TheVariants as refusals
use Rattle.xp_words.specs.declared.reply.Stop.{Stop}
use Rattle.xp_words.specs.declared.reply.Stop.TheVariants.{Refused, Paused}
use Rattle.xp_board.specs.declared.holdings.Liveness.{Liveness}
use Rattle.xp_board.specs.declared.holdings.Liveness.TheVariants as lives
use Rattle.xp_board.specs.declared.holdings.OwnerFound.TheVariants as owners
use Rattle.xp_board.specs.declared.holdings.Reference.{Reference}
use Rattle.xp_board.specs.declared.holdings.TypedReference.{TypedReference}
use Rattle.xp_board.specs.Hands.{typed_to, without_ref}
use Rattle.xp_board.specs.KindSteps.{live_typed}
use Rattle.xp_board.specs.Knowledge.{knows_live, tells_live}
use Rattle.xp_board.specs.Lists.{some_of}
use Rattle.xp_board.specs.Readings.{is_type}
use Rattle.xp_board.specs.Told.{Post, PortValue}
use Rattle.xp_board.proofs.Sums.{when_eq}
use Rattle.step_maker.specs.Holds.{FlushedSame, Holds, Same, quiet}
use Rattle.step_maker.specs.Moves.{Came, Met}
use Rattle.step_maker.proofs.Coming.{came_post, came_trans}
use Rattle.step_maker.specs.Answers.{Deed, Serves, Stops, missed}
use Rattle.step_maker.specs.Asked.{Within, named, of_frame}
use Rattle.step_maker.proofs.Later.{IsUncounted, stops_then}
use Rattle.step_maker.proofs.Piecing.{serves_came, serves_then, serves_within, stops_within, within_frame}
use Rattle.flush_words.proofs.Lasting.{came_keeps}
use Rattle.frame_words.specs.Freeing.{gave}
use Rattle.frame_words.specs.Plain.{TwinGet}
use Rattle.frame_words.specs.Refs.{Gets, IsRefStop, took}
use Rattle.frame_words.proofs.Putting.{without_newest}
use Rattle.frame_types.specs.Taking.{typed_as}
use Rattle.table_entries.specs.Acquiring.{GotRef}
use Rattle.desc_pages.proofs.Short.{referred_short, unreferred_short}
use Rattle.desc_pages.specs.Pages.{GetsDesc, GotDesc, IsDescAside, IsDescStop, IsTakenStop, TakesDesc, TookDesc, had, of_desc, unreferred, untaken}
use Rattle.flush_waits.proofs.Growing.{some_weaker as some_more}

-- ---- a page that is known live stays so
module _ (v u : PortValue) (f : ℕ) (came : Came v u) where
  tells_more : (z : Sizes) (kind : Option PageType) (live : Liveness) → IsTrue (tells_live z v.holdings.steps f Desc kind live) → IsTrue (tells_live z u.holdings.steps f Desc kind live)
  tells_more z kind lives.Found is = is
  tells_more z kind (lives.Since n) is = came_keeps v u _ came is

  live_more : (z : Sizes) → u.holdings.typed ≡ v.holdings.typed → v.holdings.locks ≡ [] → IsTrue (knows_live z f Desc v.holdings) → IsTrue (knows_live z f Desc u.holdings)
  unfolding knows_live some_of
  live_more z same none is =
      or_left _ _
      (subst (λ ts. IsTrue (some_of (λ (e : TypedReference). (e.frame == f) && tells_live z u.holdings.steps f Desc e.kind e.live) ts)) (sym same)
      (some_more (λ (e : TypedReference). (e.frame == f) && tells_live z v.holdings.steps f Desc e.kind e.live) (λ (e : TypedReference). (e.frame == f) && tells_live z u.holdings.steps f Desc e.kind e.live) v.holdings.typed
      (λ e at. let parts = and_parts (e.frame == f) (tells_live z v.holdings.steps f Desc e.kind e.live) at in and_from (e.frame == f) (tells_live z u.holdings.steps f Desc e.kind e.live) parts.0 (tells_more z e.kind e.live parts.1)) (by is)))
    where
      by : IsTrue (some_of (λ (e : TypedReference). (e.frame == f) && tells_live z v.holdings.steps f Desc e.kind e.live) v.holdings.typed || some_of (λ e. (e.frame == f) && is_type e.kind Desc) v.holdings.locks) →
          IsTrue (some_of (λ (e : TypedReference). (e.frame == f) && tells_live z v.holdings.steps f Desc e.kind e.live) v.holdings.typed)
      by all = elim (or_cases _ _ all) [
        | inl here ↦ here
        | inr locked ↦ absurd (let off = ap (λ ls. some_of (λ e. (e.frame == f) && is_type e.kind Desc) ls) none in let on = locked in cc)
      ]

-- ---- stops
pub taken_kind : (e : Stop) → IsTakenStop e → IsDescStop e
taken_kind (Refused (refusals.OtherType f want x)) is = tt
taken_kind (Refused (refusals.BadDescriptor f i word)) is = tt
taken_kind (Refused (refusals.Clock x)) is = tt
taken_kind (Paused (pauses.Lost place e x)) is = tt
taken_kind (Paused (pauses.Busy f x)) is = tt
taken_kind (Paused (pauses.Flush v stamp x)) is = tt
taken_kind _ is = absurd is

pub taken_uncounted : (e : Stop) → IsTakenStop e → IsUncounted e
taken_uncounted (Refused (refusals.OtherType f want x)) is = tt
taken_uncounted (Refused (refusals.BadDescriptor f i word)) is = tt
taken_uncounted (Refused (refusals.Clock x)) is = tt
taken_uncounted (Paused (pauses.Lost place e x)) is = tt
taken_uncounted (Paused (pauses.Busy f x)) is = tt
taken_uncounted (Paused (pauses.Flush v stamp x)) is = tt
taken_uncounted _ is = absurd is

pub ref_kind : (e : Stop) → IsRefStop e → IsDescStop e
ref_kind (Refused (refusals.NoFrame f)) is = tt
ref_kind (Refused (refusals.WrongOwner f x)) is = tt
ref_kind (Refused (refusals.CountFull f x)) is = tt
ref_kind (Paused (pauses.Lost place e x)) is = tt
ref_kind _ is = absurd is

-- ---- requests
module _ (v w : PortValue) (f owner : ℕ) where
  ref_within : Within v.post.machine v.post.vcpu (of_frame f owner None) (Met v w) (of_desc f owner) (Met v w)
  ref_within = within_frame v.post.machine v.post.vcpu f owner None (of_desc f owner) (Met v w) (Met v w) (λ m x. x) (named (when_eq f f refl) refl tt)

  pub ref_serves : (ds : List Deed) → Serves v w (of_frame f owner None) ds → Serves v w (of_desc f owner) ds
  ref_serves ds a = serves_within v w (of_frame f owner None) (of_desc f owner) ds ref_within a

  pub ref_stops : (e : Stop) → Stops v w (of_frame f owner None) e → Stops v w (of_desc f owner) e
  ref_stops e a = stops_within v w (of_frame f owner None) (of_desc f owner) e ref_within a

-- ---- the reference is not to be had
pub unreferred_gets : (v u : PortValue) (f owner : ℕ) (e : Stop) {answer : Result ℕ Stop} → answer ≡ Err e → Serves v u (of_frame f owner None) (missed v.post.machine e) → Same v u → IsRefStop e → GotRef v u f owner (Err e) → GetsDesc v u f owner answer
unreferred_gets v u f owner e is a same kind got =
    rw is
    (record {
      came = serves_came v u (of_frame f owner None) (missed v.post.machine e) a;
      frame = tt;
      serves = ref_serves v u f owner (missed v.post.machine e) a;
      stops = ref_stops v u f owner e got.stops;
      kinds = ref_kind e kind;
      hand = ap quiet same;
      course = unreferred u e got;
      short = unreferred_short v u f owner e got;
    })

-- ---- frame g, which was answered, is frame f
module _ (v u : PortValue) (f owner g : ℕ) (at : g ≡ f) (gets : Serves v u (of_frame f owner None) []) where
  referred_came : Came v u
  referred_came = serves_came v u (of_frame f owner None) [] gets

  serves_behind : (w : PortValue) (ds : List Deed) → Serves u w (of_desc g owner) ds → Serves v w (of_desc f owner) ds
  serves_behind w ds a =
      let r = of_desc f owner in
      subst (λ es. Serves v w r es) (append-nil ds) (serves_then v u w r [] ds (ref_serves v u f owner [] gets) (subst (λ k. Serves u w (of_desc k owner) ds) at a))

  got_ref : Gets v u f owner (Ok g) → TwinGet v u f owner (Ok g) → GotRef v u f owner (Ok f)
  got_ref found plain = subst (λ k. GotRef v u f owner (Ok k)) at (record { found = found; plain = plain; stops = tt })

  module _ (takes : Holds v u (took g owner v.holdings)) where
    pub aside_then : v.holdings.locks ≡ [] → IsDescAside v f → IsDescAside u g
    aside_then none (inl off) = inl (ap (λ ts. typed_to g ts) (ap (λ (q : PortValue). q.holdings.typed) takes) ∙ ap (λ k. typed_to k v.holdings.typed) at ∙ off)
    aside_then none (inr live) =
        inr (subst (λ k. IsTrue (knows_live (sizes_of u.post.machine) k Desc u.holdings)) (sym at) (subst (λ (p : Post). IsTrue (knows_live (sizes_of p.machine) f Desc u.holdings)) (sym (came_post v u referred_came))
        (live_more v u f referred_came (sizes_of v.post.machine) (ap (λ (q : PortValue). q.holdings.typed) takes) none live)))

    one_less : without_ref g (took g owner v.holdings).refs ≡ v.holdings.refs
    one_less = without_newest (λ (e : Reference). e.frame) g (record { frame = g; owner = owners.Of owner }) v.holdings.refs refl

    gave_again : FlushedSame v (record u { holdings = gave g u.holdings })
    gave_again =
        ap (λ (q : PortValue). quiet (record q { holdings = gave g q.holdings })) takes ∙ ap (λ (rs : List Reference). quiet (record v { holdings = record v.holdings { refs = rs } })) one_less

    -- ---- it is not to be had as a page
    pub untaken_gets : (w : PortValue) (e : Stop) {answer : Result ℕ Stop} → answer ≡ Err e → Gets v u f owner (Ok g) → TwinGet v u f owner (Ok g) → TakesDesc u w g owner (Err e) → GetsDesc v w f owner answer
    untaken_gets w e is found plain t =
        rw is
        (record {
          came = came_trans v u w referred_came t.came;
          frame = tt;
          serves = subst (λ (p : Post). Serves v w (of_desc f owner) (missed p.machine e)) (came_post v u referred_came) (serves_behind w (missed u.post.machine e) t.serves);
          stops = stops_then v u w (of_desc f owner) e (taken_uncounted e t.kinds) referred_came (subst (λ k. Stops u w (of_desc k owner) e) at t.stops);
          kinds = taken_kind e t.kinds;
          hand = t.hand ∙ gave_again;
          course = untaken u w e (got_ref found plain) (subst (λ k. TookDesc u k owner w (Err e)) at t.course);
          short = referred_short v u w f owner (came_post v u referred_came) (got_ref found plain) t.short;
        })

    -- ---- it is
    pub had_gets : (w : PortValue) → g < v.post.machine.frames → Gets v u f owner (Ok g) → TwinGet v u f owner (Ok g) → TakesDesc u w g owner (Ok tt) → GetsDesc v w f owner (Ok g)
    had_gets w inside found plain t =
        record {
          came = came_trans v u w referred_came t.came;
          frame = (at, inside);
          serves = serves_behind w [] t.serves;
          stops = tt;
          kinds = tt;
          hand = t.hand ∙ ap (λ (q : PortValue). quiet (record q { holdings = typed_as g owner Desc q.holdings })) takes
              ∙ ap (λ (rs : List Reference). quiet (record v { holdings = record v.holdings { refs = rs; typed = live_typed g Desc (owners.Of owner) ∷ v.holdings.typed } })) one_less;
          course = subst (λ k. GotDesc v f owner w (Ok k)) (sym at) (had u w (got_ref found plain) (subst (λ k. TookDesc u k owner w (Ok tt)) at t.course));
          short = referred_short v u w f owner (came_post v u referred_came) (got_ref found plain) t.short;
        }
