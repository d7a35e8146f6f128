-- A frame is taken as ordinary memory with a reference of its own: the same, behind the steps that take it.
use Rattle.std.proofs.Common.{◌≡◌, ◌≢◌, ◌⊎◌, ℕ, ◌+◌, List, [], ◌∷◌, ◌++◌, Some, None, Result, Ok, Err, IfErr, refl, sym, ap, ◌∙◌, subst, inl, inr, append-nil}
use Rattle.xp_words.specs.declared.kind.PageType.TheVariants.{Writable}
use Rattle.xp_words.specs.declared.place.Place.TheVariants.{Kind}
use Rattle.xp_words.specs.declared.reply.Stop.{Stop}
use Rattle.xp_words.specs.declared.reply.Stop.TheVariants.{Refused, Paused}
use Rattle.xp_board.specs.declared.holdings.OwnerFound.TheVariants as owners
use Rattle.xp_board.specs.declared.holdings.Reference.{Reference}
use Rattle.xp_board.specs.Hands.{typed_to, without_ref, work_on}
use Rattle.xp_board.specs.KindSteps.{live_typed}
use Rattle.xp_board.specs.Lists.{first_by, times_by}
use Rattle.xp_board.specs.Readings.{domain_of}
use Rattle.xp_board.specs.Told.{Post, PortValue}
use Rattle.step_maker.specs.Holds.{FlushedHolds, FlushedSame, Holds, Same, quiet}
use Rattle.step_maker.specs.Moves.{Came}
use Rattle.step_maker.proofs.Coming.{came_post, came_trans}
use Rattle.step_maker.specs.Answers.{Deed, Misses, Serves, Stops, missed}
use Rattle.step_maker.specs.Asked.{of_frame}
use Rattle.step_maker.proofs.Later.{stops_then}
use Rattle.step_maker.proofs.Piecing.{serves_came, serves_then}
use Rattle.frame_words.specs.Freeing.{gave}
use Rattle.frame_words.specs.Plain.{TwinGet}
use Rattle.frame_words.specs.Refs.{Gets, took}
use Rattle.frame_words.proofs.Putting.{without_newest}
use Rattle.frame_types.specs.Taking.{IsTypeStop, typed_as}
use Rattle.frame_types.proofs.Serving.{type_uncounted}
use Rattle.table_entries.specs.Acquiring.{GotRef}
use Rattle.writable_pages.specs.Pages.{GotPage, HidesMark, LeavesGot, LeavesPage, ServesPage, TookPage, had, of_page, refused, unreferred}
use Rattle.writable_pages.proofs.Asking.{page_serves, page_stops, same_page}

-- what the call ensures
pub record Ends (v w : PortValue) (f owner : ℕ) (answer : Result ℕ Stop) : Type 0 where
  pub came : Came v w
  pub serves : ServesPage v w f owner answer
  pub stops : IfErr answer (λ x. Stops v w (of_page v f owner) x)
  pub hand : LeavesGot v w f owner answer
  pub course : GotPage v f owner w answer

-- ---- the reference is not to be had
pub unreferred_ends : (v u : PortValue) (f owner : ℕ) {e : Stop} {answer : Result ℕ Stop} → answer ≡ Err e → Serves v u (of_frame f owner None) (missed v.post.machine e) → Same v u → GotRef v u f owner (Err e) → Ends v u f owner answer
unreferred_ends v u f owner {e} is a same got =
    rw is
    (record {
      came = serves_came v u (of_frame f owner None) (missed v.post.machine e) a;
      serves = record { hidden = []; may = inl refl; serves = page_serves v u v f owner None tt (missed v.post.machine e) a };
      stops = page_stops v u v f owner None tt e got.stops;
      hand = left e;
      course = unreferred u e got;
    })
  where
    left : (x : Stop) → LeavesGot v u f owner (Err x)
    left (Refused x) = ap quiet same
    left (Paused x) = inl (ap quiet same)

-- ---- frame g, which was answered, is frame f
module _ (v u w : PortValue) (f owner g : ℕ) (at : g ≡ f) (gets : Serves v u (of_frame f owner None) []) where
  referred_came : Came v u
  referred_came = serves_came v u (of_frame f owner None) [] gets

  whole_came : Came u w → Came v w
  whole_came came = came_trans v u w referred_came came

  asked_there : of_page u g owner ≡ of_page v f owner
  asked_there = ap (λ k. of_page u k owner) at ∙ same_page v u f owner referred_came

  serves_behind : (ds : List Deed) → Serves u w (of_page u g owner) ds → Serves v w (of_page v f owner) ds
  serves_behind ds a =
      let r = of_page v f owner in
      subst (λ es. Serves v w r es) (append-nil ds)
      (serves_then v u w r [] ds (page_serves v u v f owner None tt [] gets) (subst (λ q. Serves u w q ds) asked_there a))

  foreign_there : (owner ≢ domain_of u.post.machine u.post.vcpu) → owner ≢ domain_of v.post.machine v.post.vcpu
  foreign_there off = subst (λ (p : Post). owner ≢ domain_of p.machine p.vcpu) (came_post v u referred_came) off

  got_ref : Gets v u f owner (Ok g) → TwinGet v u f owner (Ok g) → GotRef v u f owner (Ok f)
  got_ref found plain = subst (λ k. GotRef v u f owner (Ok k)) at (record { found = found; plain = plain; stops = tt })

  -- ---- hands
  module _ (takes : Holds v u (took g owner v.holdings)) where
    pub no_work : v.holdings.works ≡ [] → work_on g u.holdings.works ≡ None
    unfolding first_by
    no_work none = ap (λ ys. work_on g ys) (ap (λ (q : PortValue). q.holdings.works) takes ∙ none)

    pub no_type : v.holdings.typed ≡ [] → typed_to g u.holdings.typed ≡ 0
    unfolding times_by
    no_type none = ap (λ ys. typed_to g ys) (ap (λ (q : PortValue). q.holdings.typed) takes ∙ none)

    one_less : without_ref g (took g owner v.holdings).refs ≡ v.holdings.refs
    one_less = without_newest (λ (e : Reference). e.frame) g (record { frame = g; owner = owners.Of owner }) v.holdings.refs refl

    -- the reference went out again
    gave_again : FlushedSame v (record u { holdings = gave g u.holdings })
    gave_again =
        ap (λ (q : PortValue). quiet (record q { holdings = gave g q.holdings })) takes ∙ ap (λ (rs : List Reference). quiet (record v { holdings = record v.holdings { refs = rs } })) one_less

    leaves_there : (x : Stop) → LeavesPage u w g owner (Err x) → LeavesGot v w f owner (Err x)
    leaves_there (Refused x) a = a ∙ gave_again
    leaves_there (Paused x) (inl a) = inl (a ∙ gave_again)
    leaves_there (Paused x) (inr a) =
        inr (
          foreign_there a.0,
          a.1 ∙ ap (λ (q : PortValue). record q { holdings = record q.holdings { old0 = Some (g + 1) } }) gave_again ∙ ap (λ k. quiet (record v { holdings = record v.holdings { old0 = Some (k + 1) } })) at,
        )

    -- ---- it is not to be had as ordinary memory
    module _ (e : Stop) where
      hides_there : (x : Stop) → HidesMark {A = Unit {0}} u owner (Err x) → HidesMark {A = ℕ} v owner (Err x)
      hides_there (Refused x) a = a
      hides_there (Paused x) a = foreign_there a

      hidden_there : (ds : List Deed) → (ds ≡ []) ⊎ (HidesMark {A = Unit {0}} u owner (Err e) × (ds ≡ Misses (Kind g) ∷ [])) → (ds ≡ []) ⊎ (HidesMark {A = ℕ} v owner (Err e) × (ds ≡ Misses (Kind f) ∷ []))
      hidden_there ds (inl a) = inl a
      hidden_there ds (inr a) = inr (hides_there e a.0, a.1 ∙ ap (λ k. Misses (Kind k) ∷ []) at)

    pub refused_ends : {e : Stop} {answer : Result ℕ Stop} → answer ≡ Err e → Gets v u f owner (Ok g) → TwinGet v u f owner (Ok g) → Came u w → ServesPage {A = Unit {0}} u w g owner (Err e) → Stops u w (of_page u g owner) e → IsTypeStop e →
        LeavesPage u w g owner (Err e) → TookPage u g owner w (Err e) → Ends v w f owner answer
    refused_ends {e} is found plain came serves stops kind hand course =
        rw is
        (record {
          came = whole_came came;
          serves = record {
            hidden = serves.hidden;
            may = hidden_there e serves.hidden serves.may;
            serves = subst (λ (p : Post). Serves v w (of_page v f owner) (serves.hidden ++ missed p.machine e)) (came_post v u referred_came) (serves_behind (serves.hidden ++ missed u.post.machine e) serves.serves);
          };
          stops = stops_then v u w (of_page v f owner) e (type_uncounted e kind) referred_came (subst (λ q. Stops u w q e) asked_there stops);
          hand = leaves_there e hand;
          course = refused u w e (got_ref found plain) (subst (λ k. TookPage u k owner w (Err e)) at course);
        })

    -- ---- it is: it became a typed one
    pub had_ends : Gets v u f owner (Ok g) → TwinGet v u f owner (Ok g) → Came u w → ServesPage {A = Unit {0}} u w g owner (Ok tt) → FlushedHolds u w (typed_as g owner Writable u.holdings) → TookPage u g owner w (Ok tt) → Ends v w f owner (Ok g)
    had_ends found plain came serves hand course =
        record {
          came = whole_came came;
          serves = record { hidden = serves.hidden; may = by serves.may; serves = serves_behind (serves.hidden ++ []) serves.serves };
          stops = tt;
          hand = hand ∙ ap (λ (q : PortValue). quiet (record q { holdings = typed_as g owner Writable q.holdings })) takes
              ∙ ap (λ (rs : List Reference). quiet (record v { holdings = record v.holdings { refs = rs; typed = live_typed g Writable (owners.Of owner) ∷ v.holdings.typed } })) one_less;
          course = subst (λ k. GotPage v f owner w (Ok k)) (sym at) (had u w (got_ref found plain) (subst (λ k. TookPage u k owner w (Ok tt)) at course));
        }
      where
        by : {ds : List Deed} → (ds ≡ []) ⊎ (⊥ × (ds ≡ Misses (Kind g) ∷ [])) → (ds ≡ []) ⊎ (⊥ × (ds ≡ Misses (Kind f) ∷ []))
        by (inl a) = inl a
        by (inr a) = absurd a.0
