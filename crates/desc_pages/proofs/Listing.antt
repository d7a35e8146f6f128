-- The frames of a list are taken one behind the other, or those before the one that is not to be had given back.
use Rattle.std.proofs.Common.{◌≡◌, ℕ, ◌+◌, ◌<◌, add-one, List, [], ◌∷◌, length, get_or, Ok, Err, refl, sym, ap, ◌∙◌, subst, arith, inl, inr, append-nil}
use Rattle.std.proofs.lemmas.Bool.{cases_eq}
use Rattle.xp_words.specs.Machine.{IsMachine}
use Rattle.xp_words.specs.declared.kind.PageType.TheVariants.{Desc}
use Rattle.xp_words.specs.declared.reply.Stop.{Stop}
use Rattle.xp_board.specs.declared.holdings.OwnerFound.TheVariants as owners
use Rattle.xp_board.specs.declared.holdings.TypedReference.{TypedReference}
use Rattle.xp_board.specs.Hands.{IsEmptyHand, refs_to, work_on}
use Rattle.xp_board.specs.KindSteps.{live_typed}
use Rattle.xp_board.specs.Told.{Post, PortValue}
use Rattle.step_maker.specs.Holds.{FlushedHolds, FlushedSame, MayWork, Rests, quiet}
use Rattle.step_maker.specs.Moves.{Met}
use Rattle.step_maker.proofs.Coming.{came_self, came_trans, met_after}
use Rattle.step_maker.specs.Answers.{Deed, Serves, Stops, missed}
use Rattle.step_maker.specs.Asked.{NoMore, Within}
use Rattle.step_maker.proofs.Piecing.{serves_came, serves_inner, serves_nothing, stops_before, stops_inner}
use Rattle.desc_pages.specs.Gdt.{GaveAll, HoldsPages, Takes, Untakes, held, more, none, of_gdt, own_domain, untaken}
use Rattle.desc_pages.specs.Pages.{GotDesc, IsDescAside, IsDescStop, LeavesDesc, of_desc}
use Rattle.desc_pages.proofs.Held.{aside_held}
use Rattle.desc_pages.proofs.Within.{listed, within_gdt}

-- none yet
pub takes_none : (v : PortValue) (fs : List ℕ) → Rests v → Takes v v fs 0
takes_none v fs rests =
    record {
      came = came_self v;
      hand = ap (λ (ts : List TypedReference). quiet (record v { holdings = record v.holdings { typed = ts } })) rests.empty.typed;
      inside = λ i low. absurd (omega (arith, low));
      serves = λ entries. serves_nothing v (of_gdt (own_domain v) entries fs);
      course = none;
    }

module _ (v a : PortValue) (fs : List ℕ) (k : ℕ) (rests : Rests v) (t : Takes v a fs k) where
  abbrev d : ℕ
  d = own_domain v

  abbrev f : ℕ
  f = get_or fs k 0

  same_post : a.post ≡ v.post
  same_post = ap (λ (q : PortValue). q.post) t.hand

  pub same_domain : own_domain a ≡ d
  same_domain = ap (λ (q : PortValue). own_domain q) t.hand

  pub taken_works : MayWork a
  taken_works =
      record {
        running = ap (λ (q : PortValue). q.holdings.run) t.hand ∙ rests.may.running;
        no_walk = ap (λ (q : PortValue). q.holdings.walk) t.hand ∙ rests.may.no_walk;
        machine = subst (λ (q : PortValue). IsMachine q.post.machine) (sym t.hand) rests.may.machine;
      }

  pub no_works : a.holdings.works ≡ []
  no_works = ap (λ (q : PortValue). q.holdings.works) t.hand ∙ rests.empty.works

  pub no_locks : a.holdings.locks ≡ []
  no_locks = ap (λ (q : PortValue). q.holdings.locks) t.hand ∙ rests.empty.locks

  pub no_claimed : a.holdings.claimed ≡ []
  no_claimed = ap (λ (q : PortValue). q.holdings.claimed) t.hand ∙ rests.empty.claimed

  pub no_looking : a.holdings.looking ≡ []
  no_looking = ap (λ (q : PortValue). q.holdings.looking) t.hand ∙ rests.empty.looking

  typed_there : a.holdings.typed ≡ held (own_domain a) fs k
  typed_there = ap (λ (q : PortValue). q.holdings.typed) t.hand ∙ ap (λ y. held y fs k) (sym same_domain)

  pub aside_there : IsDescAside a f
  aside_there = aside_held a fs k f typed_there

  -- ---- behind a page
  module _ (c w : PortValue) (low : k < length fs) (rest : Rests v) where
    within_there : (entries : ℕ) → Within v.post.machine v.post.vcpu (of_desc f d) (Met a w) (of_gdt d entries fs) (Met v w)
    within_there entries = within_gdt v.post.machine v.post.vcpu f d entries fs (listed fs k low) (Met a w) (Met v w) (λ m x. met_after v a w m t.came x)

    pub more_serves : (entries : ℕ) (ds : List Deed) → Serves a w (of_desc f d) ds → Serves v w (of_gdt d entries fs) ds
    more_serves entries ds b = subst (λ es. Serves v w (of_gdt d entries fs) es) (append-nil ds) (serves_inner v a w (of_gdt d entries fs) (of_desc f d) [] ds (within_there entries) (t.serves entries) b)

    nothing_more : (entries : ℕ) → NoMore (of_gdt d entries fs) a.holdings v.holdings
    nothing_more entries g =
        record {
          refs = λ away. let is = ap (λ (q : PortValue). refs_to g q.holdings.refs) t.hand in omega (arith, is);
          works = λ off. sym (ap (λ (q : PortValue). work_on g q.holdings.works) t.hand) ∙ off;
          typed = λ off. absurd cc;
        }

    pub more_stops : (entries : ℕ) (e : Stop) → Stops a w (of_desc f d) e → Stops v w (of_gdt d entries fs) e
    more_stops entries e b = stops_inner v a w (of_gdt d entries fs) (of_desc f d) e (within_there entries) (nothing_more entries) t.came b

  -- one more is in hand
  pub takes_more : (w : PortValue) (o g : ℕ) → k < length fs → o ≡ d → (g ≡ f) × (g < a.post.machine.frames) → LeavesDesc a w o (Ok g) → Serves a w (of_desc f o) [] → GotDesc a f o w (Ok g) → Takes v w fs (k + 1)
  takes_more w o g low own at leaves serves course =
      let serves_d = subst (λ y. Serves a w (of_desc f y) []) own serves in
      record {
        came = came_trans v a w t.came (serves_came a w (of_desc f o) [] serves);
        hand =
            leaves
            ∙ ap (λ (q : PortValue). quiet (record q { holdings = record q.holdings { typed = live_typed g Desc (owners.Of o) ∷ q.holdings.typed } })) t.hand
            ∙ ap (λ y. quiet (record v { holdings = record v.holdings { typed = live_typed y Desc (owners.Of o) ∷ held d fs k } })) at.0
            ∙ ap (λ y. quiet (record v { holdings = record v.holdings { typed = live_typed f Desc (owners.Of y) ∷ held d fs k } })) own
            ∙ ap (λ j. quiet (record v { holdings = record v.holdings { typed = held d fs j } })) (sym (add-one k));
        inside = λ i less. inside_next i less;
        serves = λ entries. more_serves w w low rests entries [] serves_d;
        course = more k a w t.course (subst (λ y. GotDesc a f d w (Ok y)) at.0 (subst (λ y. GotDesc a f y w (Ok g)) own course));
      }
    where
      here : f < v.post.machine.frames
      here = subst (λ (q : Post). f < q.machine.frames) same_post (subst (λ y. y < a.post.machine.frames) at.0 at.1)

      inside_next : (i : ℕ) → i < k + 1 → get_or fs i 0 < v.post.machine.frames
      inside_next i less = elim (cases_eq i k) [
        | inl same ↦ subst (λ y. get_or fs y 0 < v.post.machine.frames) (sym same) here
        | inr other ↦ t.inside i (omega (arith, less, other))
      ]

  -- or it is not to be had
  module _ (b : PortValue) (same : FlushedSame a b) where
    behind : FlushedHolds v b (record v.holdings { typed = held d fs k })
    behind = same ∙ t.hand

    pub holds_pages : HoldsPages b fs k
    holds_pages =
        record {
          typed = ap (λ (q : PortValue). q.holdings.typed) behind ∙ ap (λ y. held y fs k) (sym (ap (λ (q : PortValue). own_domain q) behind));
          inside = λ i low. subst (λ (q : PortValue). get_or fs i 0 < q.post.machine.frames) (sym behind) (t.inside i low);
          others = others_there;
        }
      where
        others_there : IsEmptyHand (record b.holdings { typed = [] })
        others_there =
            record {
              refs = ap (λ (q : PortValue). q.holdings.refs) behind ∙ rests.empty.refs;
              typed = refl;
              works = ap (λ (q : PortValue). q.holdings.works) behind ∙ rests.empty.works;
              locks = ap (λ (q : PortValue). q.holdings.locks) behind ∙ rests.empty.locks;
              ending = ap (λ (q : PortValue). q.holdings.ending) behind ∙ rests.empty.ending;
              claimed = ap (λ (q : PortValue). q.holdings.claimed) behind ∙ rests.empty.claimed;
              raised = ap (λ (q : PortValue). q.holdings.raised) behind ∙ rests.empty.raised;
              credits = ap (λ (q : PortValue). q.holdings.credits) behind ∙ rests.empty.credits;
              looking = ap (λ (q : PortValue). q.holdings.looking) behind ∙ rests.empty.looking;
            }

    pub behind_works : MayWork b
    behind_works =
        record {
          running = ap (λ (q : PortValue). q.holdings.run) behind ∙ rests.may.running;
          no_walk = ap (λ (q : PortValue). q.holdings.walk) behind ∙ rests.may.no_walk;
          machine = subst (λ (q : PortValue). IsMachine q.post.machine) (sym behind) rests.may.machine;
        }

    pub untakes : (w : PortValue) (o : ℕ) (e : Stop) → k < length fs → o ≡ d → Serves a b (of_desc f o) (missed a.post.machine e) → Stops a b (of_desc f o) e → IsDescStop e → GotDesc a f o b (Err e) → GaveAll b w fs k → Untakes v w fs e
    untakes w o e low own serves stops kinds course gave =
        let came_b = serves_came a b (of_desc f o) (missed a.post.machine e) serves in
        let serves_d = subst (λ y. Serves a b (of_desc f y) (missed v.post.machine e)) own (subst (λ (q : Post). Serves a b (of_desc f o) (missed q.machine e)) same_post serves) in
        record {
          came = came_trans v b w (came_trans v a b t.came came_b) gave.came;
          hand =
              ap quiet gave.hand ∙ ap (λ (q : PortValue). quiet (record q { holdings = record q.holdings { typed = [] } })) behind
              ∙ ap (λ (ts : List TypedReference). quiet (record v { holdings = record v.holdings { typed = ts } })) (sym rests.empty.typed);
          serves = λ entries. gave.serves v (of_gdt d entries fs) (missed v.post.machine e) (more_serves b b low rests entries (missed v.post.machine e) serves_d) (λ i less. listed fs i (omega (arith, less, low)));
          stops = λ entries. stops_before v b w (of_gdt d entries fs) e (more_stops b b low rests entries e (subst (λ y. Stops a b (of_desc f y) e) own stops)) gave.came;
          kinds = kinds;
          course = λ entries right. untaken k a b w e right t.course low (subst (λ y. GotDesc a f y b (Err e)) own course) gave.course;
        }
