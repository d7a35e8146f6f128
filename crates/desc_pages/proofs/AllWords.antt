-- All words of a descriptor page, one behind the other.
use Rattle.std.proofs.Common.{◌≡◌, ℕ, ◌+◌, ◌<◌, List, ◌∷◌, ◌++◌, Result, Err, refl, sym, ap, ◌∙◌, subst}
use Rattle.xp_board.specs.declared.holdings.Work.{Work}
use Rattle.xp_words.specs.Machine.{IsMachine}
use Rattle.xp_board.specs.Told.{PortValue}
use Rattle.step_maker.specs.Holds.{MayWork, still}
use Rattle.step_maker.specs.Visits.{Nothing, Visit, Then}
use Rattle.step_maker.proofs.Visiting.{does_as, does_nothing, does_then}
use Rattle.desc_pages.specs.declared.fixing.Unfixed.{Unfixed}
use Rattle.desc_pages.specs.Fixing.{Fixes, FixesAll, FixesBy, FixesOne, FixesWord, IsPageWork, Unfixes, UnfixesWord, WordBy, changed, changes, none, stands, stood}

-- none yet
pub fixes_none : (v : PortValue) (f : ℕ) (e : Work) (rest : List Work) → IsPageWork v f 0 e rest → Fixes v v f 0 e rest
fixes_none v f e rest p =
    record {
      work = e;
      same = refl;
      recorded = refl;
      since = refl;
      page = p.page;
      hand = ap (λ ws. still (record v { holdings = record v.holdings { works = ws } })) p.works;
      serves = λ u r ds a names entries. a;
      visits = does_as v v Nothing (λ vs. FixesBy f 0 vs) (λ vs is. subst (λ ws. FixesBy f 0 ws) (sym is) none) (does_nothing v);
    }

module _ (v u : PortValue) (f i : ℕ) (e : Work) (rest : List Work) (p : IsPageWork v f 0 e rest) (so : Fixes v u f i e rest) where
  -- the page there
  pub page_there : IsPageWork u f i so.work rest
  page_there =
      record {
        page = so.page;
        works = ap (λ (q : PortValue). q.holdings.works) so.hand;
        locks = ap (λ (q : PortValue). q.holdings.locks) so.hand ∙ p.locks;
        claimed = ap (λ (q : PortValue). q.holdings.claimed) so.hand ∙ p.claimed;
      }

  pub still_works : MayWork v → MayWork u
  still_works may =
      record {
        running = ap (λ (q : PortValue). q.holdings.run) so.hand ∙ may.running;
        no_walk = ap (λ (q : PortValue). q.holdings.walk) so.hand ∙ may.no_walk;
        machine = subst (λ (q : PortValue). IsMachine q.post.machine) (sym so.hand) may.machine;
      }

  -- one more
  next_list : (before after vs : List Visit) → FixesBy f i before → WordBy f i after → vs ≡ after ++ before → FixesBy f (i + 1) vs
  next_list before after vs first (stood x is list) all = subst (λ ws. FixesBy f (i + 1) ws) (sym (all ∙ ap (λ (ws : List Visit). ws ++ before) list)) (stands i x before is first)
  next_list before after vs first (changed x y old is off list) all =
      subst (λ ws. FixesBy f (i + 1) ws) (sym (all ∙ ap (λ (ws : List Visit). ws ++ before) list)) (changes i x y old before is off first)

  pub fixes_more : (w : PortValue) → FixesWord u w f i so.work rest → Fixes v w f (i + 1) e rest
  fixes_more w n =
      record {
        work = n.work;
        same = n.same ∙ so.same;
        recorded = n.recorded ∙ so.recorded;
        since = n.since ∙ so.since;
        page = n.page;
        hand = n.hand ∙ ap (λ (q : PortValue). record q { holdings = record q.holdings { works = n.work ∷ rest } }) so.hand;
        serves = λ t r ds a names entries. n.serves t r ds (so.serves t r ds a names entries) names entries;
        visits = does_as v w (Then (λ vs. FixesBy f i vs) (λ vs. WordBy f i vs)) (λ vs. FixesBy f (i + 1) vs) (λ vs a. next_list a.before a.after vs a.first a.next a.list) (does_then v u w (λ vs. FixesBy f i vs) (λ vs. WordBy f i vs) so.visits n.visits);
      }

  -- the next one has none
  pub unfixes_there : (w : PortValue) (word : ℕ) → UnfixesWord u w f i word so.work rest → Unfixes v w f i word e rest
  unfixes_there w word n =
      record {
        at = u;
        fixes = so;
        looks = n.looks;
        none = n.none;
        work = n.work;
        same = n.same ∙ so.same;
        recorded = n.recorded ∙ so.recorded;
        since = n.since ∙ so.since;
        page = n.page;
        hand = n.hand ∙ ap (λ (q : PortValue). record q { holdings = record q.holdings { works = n.work ∷ rest } }) so.hand;
        serves = λ t r ds a names entries. n.serves t r ds (so.serves t r ds a names entries) names entries;
      }

  pub still_inside : f < v.post.machine.frames → f < u.post.machine.frames
  still_inside frame = subst (λ (q : PortValue). f < q.post.machine.frames) (sym so.hand) frame

  pub unfixes_answer : (w : PortValue) (x : Unfixed) (answer : Result (Unit {0}) Unfixed) → answer ≡ Err x → i < 512 → FixesOne u w f i so.work rest (Err x) → FixesAll v w f e rest answer
  unfixes_answer w x answer is low n =
      subst (λ (y : Result (Unit {0}) Unfixed). FixesAll v w f e rest y) (sym is)
      (subst (λ k. k < 512) (sym n.0) low, subst (λ k. Unfixes v w f k x.word e rest) (sym n.0) (unfixes_there w x.word n.1))
