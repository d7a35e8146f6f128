use Rattle.std.proofs.Common.{◌≡◌, ℕ, ◌+◌, ◌<◌, ◌≤◌, ◌^◌, ◌++◌, ◌∷◌, [], List, Some, length, ap, ◌∙◌, arith, refl, subst, sym, slice_index_or}
use Rattle.xp_words.specs.declared.place.Place.TheVariants.{Refs}
use Rattle.xp_board.specs.Told.{Post}
use Rattle.step_maker.proofs.Coming.{came_post, moves_came}
use Rattle.flush_waits.specs.Waiting.{HadFree}
use Rattle.step_maker.specs.Visits.{Does}
use Rattle.step_maker.proofs.Visiting.{does_as}
use Rattle.frame_claims.specs.Found.{AllFree, TriedBy}
use Rattle.frame_claims.proofs.Trying.{all_more, all_none, tried_none}
use Rattle.frame_claims.specs.Choosing.{IsLatest, StillFree, greatest}
use Rattle.frame_claims.proofs.Finding.{each_more, greatest_more, had_later, had_now, latest_later, latest_now, look_refs_looks, looks_came, looks_nothing, one_longer, some_of, still_later, still_now}
use Rattle.frame_claims.proofs.Lasting.{keeps_moves}
use Rattle.frame_claims.proofs.Refusing.{seen_taken}
use Rattle.frame_claims.proofs.choosing.try_block.Goals.{then-stamp-greatest, else-stamp-greatest}
use Rattle.frame_claims.proofs.choosing.try_block.Goals as goal

greater : (g s : ℕ) (xs ys : List ℕ) → g ≡ greatest (xs ++ s ∷ []) → ys ≡ xs ++ s ∷ [] → g ≡ greatest ys
greater g s xs ys e is = e ∙ ap greatest (sym is)

pub loop-frame-init : goal.loop-frame-init
loop-frame-init g c =
    let none : length c.clear.new.self.items ≡ 0 = ap (λ (xs : List ℕ). length xs) c.clear.ensures in
    record {
      looks = looks_nothing (g.P.Port.value c.args.port.now);
      count = omega (arith, none);
      low = λ j l. absurd (omega (arith, none, l));
      seen = λ j l. absurd (omega (arith, none, l));
      free = λ j l. absurd (omega (arith, none, l));
      most = λ j l. absurd (omega (arith, none, l));
      visits = all_none (g.P.Port.value c.args.port.now) c.args.first c.clear.new.self.items c.clear.ensures;
      stamp = ap greatest (sym c.clear.ensures);
      none = λ e. refl;
      latest = λ l. absurd (omega (arith, none, l));
    }

pub returns-in_err-stamp-clause-looks : goal.returns-in_err-stamp-clause-looks
returns-in_err-stamp-clause-looks g c =
    look_refs_looks (g.P.Port.value c.args.port.now) (g.P.Port.value c.loop-frame.port) (g.P.Port.value c.look_refs-word.new.port) c.loop-frame.frame c.look_refs-word.result c.loop-frame.invariant.looks c.look_refs-word.ensures.moves c.look_refs-word.ensures.hand

pub loop-frame-preserved : goal.loop-frame-preserved
loop-frame-preserved g c =
    let v = g.P.Port.value c.args.port.now in
    let u = g.P.Port.value c.loop-frame.port in
    let w = g.P.Port.value c.look_refs-word.new.port in
    let so = c.loop-frame.invariant in
    let xs = c.loop-frame.stamps.items in
    let s = c.in_ok-stamp.stamp in
    let frame = c.loop-frame.frame in
    let x = c.look_refs-word.result in
    let word = c.in_ok-stamp.ensures.some in
    let moves = c.look_refs-word.ensures.moves in
    let came = moves_came u w _ _ _ _ _ moves in
    let longer = one_longer xs s in
    let at = so.count in
    record {
      looks = look_refs_looks v u w frame x so.looks moves c.look_refs-word.ensures.hand;
      count = ap (λ (ys : List ℕ). c.args.first + length ys) c.push.ensures.items ∙ omega (arith, longer, at);
      low = subst (λ ys. (j : ℕ) → j < length ys → slice_index_or ys j 0 < 2 ^ 36) (sym c.push.ensures.items) (each_more (λ j t. t < 2 ^ 36) xs s so.low word.low);
      seen = subst (λ ys. (j : ℕ) → j < length ys → StillFree v w (c.args.first + j) (slice_index_or ys j 0)) (sym c.push.ensures.items)
          (each_more (λ j t. StillFree v w (c.args.first + j) t) xs s
          (λ j l. still_later v u w (c.args.first + j) (slice_index_or xs j 0) (looks_came v u so.looks) came
          (keeps_moves u w (Refs frame) _ _ _ x (Refs (c.args.first + j)) moves (λ e. let is : frame ≡ c.args.first + j = cc in absurd (omega (arith, at, l, is)))) (so.seen j l))
          (subst (λ f. StillFree v w f s) (sym at) (still_now v u w frame x s (looks_came v u so.looks) moves word)));
      free = subst (λ ys. (j : ℕ) → j < length ys → HadFree w.post.machine (c.args.first + j) (slice_index_or ys j 0) w.holdings) (sym c.push.ensures.items)
          (each_more (λ j t. HadFree w.post.machine (c.args.first + j) t w.holdings) xs s (λ j l. had_later u w (c.args.first + j) (slice_index_or xs j 0) came (so.free j l))
          (subst (λ f. HadFree w.post.machine f s w.holdings) (sym at) (had_now u w frame x s moves word)));
      most = subst (λ ys. (j : ℕ) → j < length ys → slice_index_or ys j 0 ≤ c.if-stamp-greatest.greatest) (sym c.push.ensures.items)
          (elim c.if-stamp-greatest.branch [
            | then-stamp-greatest b ↦ each_more (λ j t. t ≤ c.if-stamp-greatest.greatest) xs s (λ j l. (let most = so.most j l in let is = b.greatest-is in let more = b.if-stamp-greatest in omega (arith, most, is, more))) (let is = b.greatest-is in omega (arith, is))
            | else-stamp-greatest b ↦ each_more (λ j t. t ≤ c.if-stamp-greatest.greatest) xs s (λ j l. (let most = so.most j l in let is = b.greatest-is in omega (arith, most, is))) (let is = b.greatest-is in let less = b.if-stamp-greatest in omega (arith, is, less))
          ]);
      visits = subst (λ ys. Does v w (λ vs. AllFree c.args.first ys vs)) (sym c.push.ensures.items) (all_more v u w c.args.first frame s x xs at word moves so.visits);
      stamp = greater c.if-stamp-greatest.greatest s xs c.push.new.self.items (elim c.if-stamp-greatest.branch [
        | then-stamp-greatest b ↦ (let is = b.greatest-is in let more = b.if-stamp-greatest in let was = so.stamp in let now = greatest_more xs s in omega (arith, is, more, was, now))
        | else-stamp-greatest b ↦ (let is = b.greatest-is in let less = b.if-stamp-greatest in let was = so.stamp in let now = greatest_more xs s in omega (arith, is, less, was, now))
      ]) c.push.ensures.items;
      none = λ e. absurd (let long : length c.push.new.self.items ≡ length xs + 1 = ap (λ (ys : List ℕ). length ys) c.push.ensures.items ∙ longer in omega (arith, long, e));
      latest = λ some.
          elim c.if-stamp-greatest.branch [
            | then-stamp-greatest b ↦
                subst (λ t. IsLatest v w c.args.first (frame + 1) c.if-stamp-greatest.latest t) (sym b.greatest-is)
                (subst (λ f. IsLatest v w c.args.first (frame + 1) f s) (sym b.latest-is) (latest_now v u w c.args.first frame x s (looks_came v u so.looks) moves word (omega (arith, at))))
            | else-stamp-greatest b ↦
                subst (λ t. IsLatest v w c.args.first (frame + 1) c.if-stamp-greatest.latest t) (sym b.greatest-is)
                (subst (λ f. IsLatest v w c.args.first (frame + 1) f c.loop-frame.greatest) (sym b.latest-is)
                (latest_later v u w c.args.first frame c.loop-frame.latest c.loop-frame.greatest came (so.latest (some_of (length xs) c.loop-frame.greatest s so.none (λ l. (let less = b.if-stamp-greatest in absurd (omega (arith, l, less))))))))
          ];
    }

pub returns-in_err-stamp-clause-none : goal.returns-in_err-stamp-clause-none
returns-in_err-stamp-clause-none g c =
    let low = c.loop-frame.auto.frame in
    let high = c.loop-frame-test.true in
    rw c.from_residual.ensures
    (seen_taken (g.P.Port.value c.args.port.now) (g.P.Port.value c.loop-frame.port) (g.P.Port.value c.look_refs-word.new.port) c.args.first c.args.size c.loop-frame.frame c.look_refs-word.result
    c.loop-frame.invariant.looks c.look_refs-word.ensures.moves c.in_err-stamp.ensures.none low high)

pub returns-clause-found : goal.returns-clause-found
returns-clause-found g c =
    let so = c.loop-frame.invariant in
    let v = g.P.Port.value c.args.port.now in
    let u = g.P.Port.value c.loop-frame.port in
    let at = so.count in
    let end = c.loop-frame-test.false in
    let low = c.loop-frame.auto.frame-end (omega arith) in
    let some = c.requires.some in
    let whole : length c.loop-frame.stamps.items ≡ c.args.size = omega (arith, at, end, low) in
    let last : c.loop-frame.frame ≡ c.args.first + c.args.size = omega (arith, end, low) in
    record {
      inside = subst (λ (q : Post). c.args.first + c.args.size ≤ q.machine.frames) (sym (came_post v u (looks_came v u so.looks))) c.requires.inside;
      aligned = c.requires.aligned;
      whole = whole;
      low = λ j l. so.low j (omega (arith, l, whole));
      seen = λ j l. so.seen j (omega (arith, l, whole));
      free = λ j l. so.free j (omega (arith, l, whole));
      most = λ j l. so.most j (omega (arith, l, whole));
      stamp = so.stamp;
      latest = subst (λ k. IsLatest v u c.args.first k c.loop-frame.latest c.loop-frame.greatest) last (so.latest (omega (arith, whole, some)));
    }

pub returns-in_err-stamp-clause-visits : goal.returns-in_err-stamp-clause-visits
returns-in_err-stamp-clause-visits g c =
    let high = c.loop-frame-test.true in
    rw c.from_residual.ensures
    (tried_none (g.P.Port.value c.args.port.now) (g.P.Port.value c.loop-frame.port) (g.P.Port.value c.look_refs-word.new.port) c.args.first c.loop-frame.frame c.args.size c.look_refs-word.result c.loop-frame.stamps.items c.loop-frame.invariant.count
    high c.in_err-stamp.ensures.none c.look_refs-word.ensures.moves c.loop-frame.invariant.visits)

pub returns-clause-visits : goal.returns-clause-visits
returns-clause-visits g c =
    let v = g.P.Port.value c.args.port.now in
    let u = g.P.Port.value c.loop-frame.port in
    let at = c.loop-frame.invariant.count in
    let end = c.loop-frame-test.false in
    let low = c.loop-frame.auto.frame-end (omega arith) in
    let whole : length c.loop-frame.stamps.items ≡ c.args.size = omega (arith, at, end, low) in
    does_as v u (λ vs. AllFree c.args.first c.loop-frame.stamps.items vs) (λ vs. TriedBy c.args.size c.args.first (Some (record { first = c.args.first; stamps = c.loop-frame.stamps.items })) vs) (λ vs all. (refl, whole, all)) c.loop-frame.invariant.visits
