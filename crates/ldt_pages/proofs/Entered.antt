-- The walk to a page of the LDT, and what follows it: all that is said of the call, by the steps and calls.
use Rattle.std.proofs.Common.{◌≡◌, ℕ, ◌+◌, ◌<◌, false, List, [], ◌∷◌, Some, None, Result, Ok, Err, refl, sym, ap, ◌∙◌, subst, append-nil}
use Rattle.xp_words.specs.Entries.{frame_of}
use Rattle.xp_words.specs.declared.context.LdtBase.{LdtBase}
use Rattle.xp_words.specs.declared.kind.PageType.TheVariants.{Desc}
use Rattle.xp_words.specs.declared.reply.Refusal.{Refusal}
use Rattle.xp_words.specs.declared.reply.Stop.{Stop}
use Rattle.xp_board.specs.declared.holdings.OwnerFound.TheVariants as owners
use Rattle.xp_board.specs.declared.holdings.TypedReference.{TypedReference}
use Rattle.xp_board.specs.KindSteps.{live_typed}
use Rattle.xp_board.specs.Readings.{domain_of}
use Rattle.tlb_walks.specs.Addresses.{walk_refusal}
use Rattle.xp_board.specs.Told.{Post, PortValue}
use Rattle.step_maker.specs.Holds.{FlushedSame, Rests, quiet}
use Rattle.step_maker.specs.Moves.{Came, Met}
use Rattle.step_maker.proofs.Coming.{came_post, came_trans, met_after}
use Rattle.step_maker.proofs.Warming.{came_warm}
use Rattle.step_maker.specs.Answers.{Deed, Serves, SetsWord, misses}
use Rattle.step_maker.specs.Asked.{Request, Within}
use Rattle.step_maker.proofs.Changing.{found_after, found_before}
use Rattle.step_maker.proofs.Later.{stops_then}
use Rattle.step_maker.proofs.Piecing.{serves_inner, serves_then, stops_inner}
use Rattle.step_maker.proofs.Resting.{still_rests}
use Rattle.desc_pages.specs.Names.{HoldsForPage, PutsPage, own_domain}
use Rattle.desc_pages.specs.Pages.{GetsDesc, of_desc}
use Rattle.tlb_walks.specs.Asking.{IsWalkStop}
use Rattle.tlb_walks.specs.Flying.{WalkMoves}
use Rattle.tlb_walks.specs.Translating.{Walks}
use Rattle.tlb_walks.specs.declared.walks.Walked.{Walked}
use Rattle.tlb_walks.proofs.Walking.{walk_last, walk_serves, walk_stops}
use Rattle.ldt_pages.specs.Touching as touching
use Rattle.ldt_pages.specs.Touching.{LdtTouched, is_beyond, of_touch, touch_address}
use Rattle.ldt_pages.proofs.Asking.{desc_kind, none_more, walk_kind, walk_numbers, walk_uncounted, within_touch}
use Rattle.ldt_pages.proofs.Touched.{Past, looked_base, looked_came, looked_serves}
use Rattle.ldt_pages.proofs.Walked.{walk_moves}

module _ {v u : PortValue} {page base : ℕ} {b : LdtBase} (a : Past v u page base b 0) (rests : Rests v) where
  abbrev asks : Request
  asks = of_touch (own_domain v) page base

  same_post : u.post ≡ v.post
  same_post = came_post v u (looked_came a)

  -- steps behind the looks
  behind : (w : PortValue) (ds : List Deed) → Serves u w asks ds → Serves v w asks ds
  behind w ds more = subst (λ es. Serves v w asks es) (append-nil ds) (serves_then v u w asks [] ds (looked_serves a) more)

  walked_serves : (w : PortValue) (answer : Result Walked Stop) → WalkMoves u w false (touch_address page b) false answer → Serves v w asks (misses v.post.machine answer)
  walked_serves w answer m =
      subst (λ (p : Post). Serves v w asks (misses p.machine answer)) same_post (behind w (misses u.post.machine answer) (walk_serves false (touch_address page b) false asks refl refl u w answer m))

  -- ---- the walk stops
  pub unwalked : {w : PortValue} {e : Stop} {answer : Result (Unit {0}) Stop} → answer ≡ Err e → Came u w → IsWalkStop e → Walks u w false (touch_address page b) false (Err e) → Rests w → w.holdings.cold ≡ false → LdtTouched v w page answer
  unwalked {w} {e} is came kind walks still warm =
      let m = walk_moves u w false (touch_address page b) false (Err e) walks.0 in
      let numbers : (x : Refusal) → walk_refusal (touch_address page b) ≡ Some x → asks.by_numbers ≡ Some x = λ x on. walk_numbers page base b a.at.based.reads a.at.within ∙ on in
      rw is
      (record {
        base = base;
        frame = None;
        found = found_before v u w _ _ came (looked_base a);
        serves = walked_serves w (Err e) m;
        stops = stops_then v u w asks e (walk_uncounted e kind) (looked_came a) (walk_stops false (touch_address page b) false asks refl refl u w e numbers m);
        kinds = walk_kind e kind;
        hand = ap quiet (walks.1 ∙ a.hand);
        rests = still;
        warm = warm;
        course = touching.TouchesLdt.unwalked u w b e a.at walks;
      })

  -- ---- it leads to a frame
  module _ {x : PortValue} {entry : ℕ} (came : Came u x) (walks : Walks u x false (touch_address page b) false (Ok entry)) where
    reached_moves : WalkMoves u x false (touch_address page b) false (Ok (record { entry = entry; barrier = walks.0 }))
    reached_moves = walk_moves u x false (touch_address page b) false (Ok (record { entry = entry; barrier = walks.0 })) walks.1

    came_there : Came v x
    came_there = came_trans v u x (looked_came a) came

    there_same : FlushedSame v x
    there_same = ap quiet walks.2.hand ∙ ap quiet a.hand

    there_serves : Serves v x asks []
    there_serves = walked_serves x (Ok (record { entry = entry; barrier = walks.0 })) reached_moves

    -- the page is asked there
    page_within : (w : PortValue) → Came x w → Within v.post.machine v.post.vcpu (of_desc (frame_of entry) (own_domain v)) (Met x w) asks (Met v w)
    page_within w on =
        let last = walk_last false (touch_address page b) false u x (record { entry = entry; barrier = walks.0 }) reached_moves in
        within_touch v.post.machine v.post.vcpu (own_domain v) page base last.0 last.1 entry (Met x w) (Met v w) (λ m k. met_after v x w m came_there k)
        (found_before v x w _ _ on (found_after v u x _ _ (looked_came a) last.2))

    -- the page is the own domain's
    gets_there : {w : PortValue} {f d : ℕ} {answer : Result ℕ Stop} → f ≡ frame_of entry → d ≡ own_domain x → GetsDesc x w f d answer → GetsDesc x w (frame_of entry) (own_domain v) answer
    gets_there {w} {f} {d} {answer} named owns gets =
        let own : d ≡ own_domain v = owns ∙ ap (λ (p : Post). domain_of p.machine p.vcpu) (came_post v x came_there) in
        subst (λ k. GetsDesc x w (frame_of entry) k answer) own (subst (λ k. GetsDesc x w k d answer) named gets)

    module _ {w : PortValue} {answer : Result ℕ Stop} (gets : GetsDesc x w (frame_of entry) (own_domain v) answer) where
      page_serves : Serves v w asks (misses v.post.machine answer)
      page_serves =
          subst (λ ds. Serves v w asks ds) (append-nil (misses v.post.machine answer))
          (serves_inner v x w asks (of_desc (frame_of entry) (own_domain v)) [] (misses v.post.machine answer) (page_within w gets.came) there_serves
          (subst (λ (p : Post). Serves x w (of_desc (frame_of entry) (own_domain v)) (misses p.machine answer)) (came_post v x came_there) gets.serves))

      came_here : Came v w
      came_here = came_trans v x w came_there gets.came

    -- ---- which is not to be had
    pub untaken : {w : PortValue} {f d : ℕ} {e : Stop} {answer : Result (Unit {0}) Stop} → answer ≡ Err e → v.holdings.cold ≡ false → f ≡ frame_of entry → d ≡ own_domain x → GetsDesc x w f d (Err e) → LdtTouched v w page answer
    untaken {w} {e = e} is warm named owns found =
        let gets = gets_there named owns found in
        let hand : FlushedSame v w = gets.hand ∙ there_same in
        rw is
        (record {
          base = base;
          frame = None;
          found = found_before v x w _ _ gets.came (found_before v u x _ _ came (looked_base a));
          serves = page_serves gets;
          stops = stops_inner v x w asks (of_desc (frame_of entry) (own_domain v)) e (page_within w gets.came) (none_more v x (own_domain v) page base rests there_same) came_there gets.stops;
          kinds = desc_kind e gets.kinds;
          hand = hand;
          rests = still_rests v w rests hand;
          warm = came_warm v w (came_here gets) (ap (λ (q : PortValue). q.holdings.ran) hand) warm;
          course = touching.TouchesLdt.untaken u x w b entry e a.at walks gets.course;
        })

    -- ---- it is, and the word names it
    -- the reference in hand is for the word
    page_held : {y : PortValue} → GetsDesc x y (frame_of entry) (own_domain v) (Ok (frame_of entry)) → HoldsForPage y (Some (frame_of entry)) x.holdings.typed
    page_held {y} gets =
        record {
          typed = ap (λ (q : PortValue). q.holdings.typed) gets.hand
              ∙ ap (λ (p : Post). live_typed (frame_of entry) Desc (owners.Of (domain_of p.machine p.vcpu)) ∷ x.holdings.typed) (sym (came_post v y (came_here gets)));
          inside = subst (λ (p : Post). frame_of entry < p.machine.frames) (sym (came_post x y gets.came)) gets.frame.1;
          works = ap (λ (q : PortValue). q.holdings.works) gets.hand ∙ ap (λ (q : PortValue). q.holdings.works) there_same ∙ rests.empty.works;
        }

    had : {y w : PortValue} → v.holdings.cold ≡ false → GetsDesc x y (frame_of entry) (own_domain v) (Ok (frame_of entry)) → PutsPage y w (22 + page) (Some (frame_of entry)) x.holdings.typed → LdtTouched v w page (Ok tt)
    had {y} {w} warm gets puts =
        let hand : FlushedSame v w = ap quiet puts.hand
        ∙ ap (λ (q : PortValue). quiet (record q { holdings = record q.holdings { typed = x.holdings.typed } })) gets.hand ∙ there_same in
        record {
          base = base;
          frame = Some (frame_of entry);
          found = found_before v y w _ _ puts.came (found_before v x y _ _ gets.came (found_before v u x _ _ came (looked_base a)));
          serves = subst (λ (p : Post). Serves v w asks (SetsWord p.vcpu (22 + page) (frame_of entry + 1) ∷ [])) (came_post v y (came_here gets)) (puts.serves v asks [] (page_serves gets) refl);
          stops = tt;
          kinds = tt;
          hand = hand;
          rests = still_rests v w rests hand;
          warm = came_warm v w (came_trans v y w (came_here gets) puts.came) (ap (λ (q : PortValue). q.holdings.ran) hand) warm;
          course = touching.TouchesLdt.touched u x y w b entry a.at walks gets.course puts.course;
        }

    pub touched : {y w : PortValue} {f d g : ℕ} → v.holdings.cold ≡ false → f ≡ frame_of entry → d ≡ own_domain x → GetsDesc x y f d (Ok g) →
        ((rest : List TypedReference) → HoldsForPage y (Some g) rest → PutsPage y w (22 + page) (Some g) rest) → LdtTouched v w page (Ok tt)
    touched {y} {w} warm named owns found puts =
        let gets = gets_there named owns found in
        let got = subst (λ k. GetsDesc x y (frame_of entry) (own_domain v) (Ok k)) gets.frame.0 gets in
        let put = subst (λ k. (rest : List TypedReference) → HoldsForPage y (Some k) rest → PutsPage y w (22 + page) (Some k) rest) gets.frame.0 puts in
        had warm got (put x.holdings.typed (page_held got))
