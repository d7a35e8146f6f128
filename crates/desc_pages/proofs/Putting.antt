-- A page is named in a word, and the one that was named there given back.
use Rattle.std.proofs.Common.{◌≡◌, ◌≢◌, ℕ, zero, suc, ◌+◌, ◌-◌, ◌<◌, ◌≤◌, if◌then◌else◌, add-one, true, List, [], ◌∷◌, ◌++◌, Option, Some, None, IsTrue, refl, sym, ap, ◌∙◌, subst, arith, inl}
use Rattle.std.proofs.lemmas.Bool.Decides.{nat_tests}
use Rattle.xp_words.specs.Places.{sizes_of}
use Rattle.xp_words.specs.declared.kind.PageType.TheVariants.{Desc}
use Rattle.xp_words.specs.declared.place.Place.TheVariants.{Vcpu}
use Rattle.xp_board.specs.declared.holdings.Holdings.{Holdings}
use Rattle.xp_board.specs.declared.holdings.OwnerFound.TheVariants as owners
use Rattle.xp_board.specs.declared.holdings.TypedReference.{TypedReference}
use Rattle.xp_board.specs.declared.step.Act.TheVariants.{Store}
use Rattle.xp_board.specs.declared.step.StepKind.TheVariants as kinds
use Rattle.xp_board.specs.ContextSteps.{context_type, named_in, named_out}
use Rattle.xp_board.specs.Hands.{brought_name, owner_from, typed_to, work_on}
use Rattle.xp_board.specs.KindSteps.{live_typed}
use Rattle.xp_board.specs.Lists.{first_by}
use Rattle.xp_board.specs.Readings.{domain_of, is_context}
use Rattle.xp_board.specs.Told.{Post, PortValue}
use Rattle.xp_board.proofs.Sums.{when_eq}
use Rattle.step_maker.specs.Holds.{Holds, still}
use Rattle.step_maker.specs.Moves.{Came, Met, Moves}
use Rattle.step_maker.proofs.Coming.{came_post, came_trans, moves_came}
use Rattle.step_maker.specs.Answers.{Deed, Serves, SetsWord, is_told_word}
use Rattle.step_maker.specs.Asked.{IsAsked, Request, context, of, of_back}
use Rattle.step_maker.proofs.Changing.{found_after, found_before, moves_found}
use Rattle.step_maker.proofs.Piecing.{serves_back, serves_came, serves_step}
use Rattle.frame_types.specs.Found.{DropsPlain}
use Rattle.frame_types.specs.Taking.{MayDropPlain, gave_type}
use Rattle.kind_words.proofs.KindHands.{known_first, typed_held}
use Rattle.kind_words.proofs.Leaving.{without_newest}
use Rattle.table_entries.proofs.HandOwners.{typed_knows_its}
use Rattle.desc_pages.specs.Names.{GaveOld, HoldsForPage, PutsPage, own_domain}
use Rattle.context_words.specs.Names.{MayPutName, naming, renamed}

-- ---- the word
page_word : (k : ℕ) → 8 ≤ k → IsTrue (is_context k)
page_word k low = grind (arith, nat_tests)

page_type : (k : ℕ) → 8 ≤ k → context_type k ≡ Some Desc
page_type k low = grind (arith, nat_tests)

told_page : (k : ℕ) → 8 ≤ k → is_told_word k ≡ true
told_page k low = grind (arith, nat_tests)

page_other : (k : ℕ) → 8 ≤ k → k ≢ 5
page_other k low is = omega (arith, low, is)

-- ---- before the store
abbrev bare : List TypedReference → Holdings → Holdings
bare ts h = record h { typed = ts }

pub may_put_page : (v : PortValue) (k : ℕ) (new : Option ℕ) (rest : List TypedReference) → 8 ≤ k → HoldsForPage v new rest → MayPutName v k new
may_put_page v k None rest low p = record { word = page_word k low; kind = Desc; typed = page_type k low; held = tt }
may_put_page v k (Some f) rest low p =
    let e = live_typed f Desc (owners.Of (own_domain v)) in
    record {
      word = page_word k low;
      kind = Desc;
      typed = page_type k low;
      held = (
        p.inside,
        subst (λ ts. 0 < typed_to f ts) (sym p.typed) (typed_held f e rest refl),
        (
          known_first (sizes_of v.post.machine) f Desc (owners.Of (own_domain v)) rest v.holdings p.typed,
          typed_knows_its (sizes_of v.post.machine) (own_domain v) (bare rest v.holdings) v.holdings e refl refl p.typed,
        ),
      );
    }

-- ---- behind it
abbrev came_in : ℕ → Holdings → List TypedReference → List TypedReference
came_in zero h rest = rest
came_in (suc g) h rest = live_typed g Desc (owner_from h) ∷ rest

went_out : (v : PortValue) (new : Option ℕ) (rest : List TypedReference) → HoldsForPage v new rest → named_out (naming new) v.holdings ≡ bare rest v.holdings
went_out v None rest p = ap (λ (ts : List TypedReference). bare ts v.holdings) p.typed
went_out v (Some f) rest p =
    ap (λ y. named_out y v.holdings) (add-one f)
    ∙ ap (λ (ts : List TypedReference). bare ts v.holdings) (without_newest (λ (y : TypedReference). y.frame) f (live_typed f Desc (owners.Of (own_domain v))) rest v.holdings.typed refl p.typed)

in_as : (k old : ℕ) (h : Holdings) (rest : List TypedReference) → context_type k ≡ Some Desc → named_in k old (bare rest h) ≡ bare (came_in old h rest) h
in_as k zero h rest is = refl
in_as k (suc g) h rest is = ap (λ o. record h { typed = brought_name g o (bare rest h) ∷ rest }) is

module _ (v y : PortValue) (k : ℕ) (new : Option ℕ) (rest : List TypedReference) (low : 8 ≤ k) (p : HoldsForPage v new rest) (old : ℕ) (m : Moves v y (Vcpu v.post.vcpu k) (Store (naming new)) kinds.Context None old)
    (hand : Holds v y (renamed k old (naming new) v.holdings)) where
  holds_in : Holds v y (bare (came_in old v.holdings rest) v.holdings)
  holds_in = hand ∙ ap (λ (h : Holdings). still (record v { holdings = h })) (ap (λ (h : Holdings). named_in k old h) (went_out v new rest p) ∙ in_as k old v.holdings rest (page_type k low))

  came_y : Came v y
  came_y = moves_came v y (Vcpu v.post.vcpu k) (Store (naming new)) kinds.Context None old m

  stored_serves : (u : PortValue) (r : Request) (ds : List Deed) → Serves u v r ds → Serves u y r (SetsWord v.post.vcpu k (naming new) ∷ ds)
  stored_serves u r ds before =
      let same : v.post.vcpu ≡ u.post.vcpu = ap (λ (q : Post). q.vcpu) (came_post u v (serves_came u v r ds before)) in
      subst (λ b. Serves u y r ((if b then (SetsWord v.post.vcpu k (naming new) ∷ []) else []) ++ ds)) (told_page k low)
      (serves_step u v y r ds (Vcpu v.post.vcpu k) (Store (naming new)) kinds.Context None old before m (inl (same, inl (page_other k low))))

  -- none was named there
  pub puts_none : old ≡ 0 → PutsPage v y k new rest
  puts_none is =
      record {
        came = came_y;
        hand = holds_in ∙ ap (λ w. still (record v { holdings = bare (came_in w v.holdings rest) v.holdings })) is;
        serves = λ u r ds before contexts. stored_serves u r ds before;
        course = record { stored = y; old = old; stores = m; gives = subst (λ w. GaveOld y y w) (sym is) refl };
      }

  -- or one was
  module _ (is : old ≢ 0) where
    word_was : old ≡ old - 1 + 1
    word_was = omega (arith, is)

    came_typed : y.holdings.typed ≡ live_typed (old - 1) Desc (owner_from v.holdings) ∷ rest
    came_typed = ap (λ (q : PortValue). q.holdings.typed) holds_in ∙ ap (λ w. came_in w v.holdings rest) (word_was ∙ add-one (old - 1))

    pub may_drop_old : MayDropPlain y.post.machine (old - 1) Desc y.holdings
    unfolding first_by
    may_drop_old =
        record {
          held = subst (λ ts. 0 < typed_to (old - 1) ts) (sym came_typed) (typed_held (old - 1) (live_typed (old - 1) Desc (owner_from v.holdings)) rest refl);
          live = known_first (sizes_of y.post.machine) (old - 1) Desc (owner_from v.holdings) rest y.holdings came_typed;
          plain = refl;
          apart = ap (λ ws. work_on (old - 1) ws) (ap (λ (q : PortValue). q.holdings.works) holds_in ∙ p.works);
        }

    pub inside_old : old ≤ v.post.machine.frames → old - 1 < y.post.machine.frames
    inside_old few = subst (λ (q : PortValue). old - 1 < q.post.machine.frames) (sym holds_in) (omega (arith, is, few))

    module _ (w : PortValue) (gives : Serves y w (of_back (old - 1)) []) (after : Holds y w (gave_type (old - 1) y.holdings)) (drops : DropsPlain y w (old - 1) Desc) where
      came_w : Came y w
      came_w = serves_came y w (of_back (old - 1)) [] gives

      given_hand : Holds v w (bare rest v.holdings)
      given_hand =
          after
          ∙ ap (λ (ts : List TypedReference). still (record y { holdings = bare ts y.holdings })) (without_newest (λ (t : TypedReference). t.frame) (old - 1) (live_typed (old - 1) Desc (owner_from v.holdings)) rest y.holdings.typed refl came_typed)
          ∙ ap (λ (q : PortValue). record q { holdings = bare rest q.holdings }) holds_in

      asked_old : (u : PortValue) (r : Request) (ds : List Deed) → Serves u v r ds → r.contexts ≡ true → IsAsked u.post.machine u.post.vcpu r (Met u w) (old - 1)
      asked_old u r ds before contexts =
          let came = serves_came u v r ds before in
          of (domain_of u.post.machine v.post.vcpu) None
          (context v.post.vcpu k old contexts
          (found_after u v w (Vcpu v.post.vcpu k) old came (found_before v y w (Vcpu v.post.vcpu k) old came_w (moves_found v y (Vcpu v.post.vcpu k) (Store (naming new)) kinds.Context None old m)))
          (page_word k low) (when_eq old (old - 1 + 1) word_was) (inl (ap (λ (q : Post). q.vcpu) (came_post u v came))) refl tt)

      pub puts_given : PutsPage v w k new rest
      puts_given =
          record {
            came = came_trans v y w came_y came_w;
            hand = given_hand;
            serves = λ u r ds before contexts. serves_back u y w r (SetsWord v.post.vcpu k (naming new) ∷ ds) [] (stored_serves u r ds before) (old - 1) (asked_old u r ds before contexts) gives;
            course = record { stored = y; old = old; stores = m; gives = subst (λ x. GaveOld y w x) (sym (word_was ∙ add-one (old - 1))) drops };
          }
