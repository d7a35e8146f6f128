-- A vCPU that has flushed since it came to its processor stays so, as long as no Run step was made.
use Rattle.std.proofs.Common.{◌≡◌, ℕ, ◌≤◌, false, List, [], ◌∷◌, length, refl, sym, ap, ◌∙◌, subst, arith}
use Rattle.xp_board.specs.declared.holdings.Holdings.{Holdings}
use Rattle.xp_board.specs.After.{after_move}
use Rattle.xp_board.specs.Told.{PortValue}
use Rattle.xp_board.specs.WellFormed.{WellFormed}
use Rattle.xp_board.proofs.Warming.{StaysWarm, move_stays}
use Rattle.step_maker.specs.Moves.{Came, Moment, MovesBy, Ran}

-- w is as warm as v, or a Run step was made since
pub record KeepsWarm (v w : PortValue) : Type 0 where
  pub later : v.holdings.ran ≤ w.holdings.ran
  pub warm : w.holdings.ran ≡ v.holdings.ran → v.holdings.cold ≡ false → w.holdings.cold ≡ false

step_warm : (u w : PortValue) (m : Moment) → MovesBy u w m → KeepsWarm u w
step_warm u w m moved =
    let f = moved.moves.finds in
    let formed = subst (λ (h : Holdings). WellFormed u.post.machine u.post.vcpu h) f.mine (f.sound.formed u.post.vcpu f.real) in
    let stays = move_stays u.post.machine u.post.vcpu u.holdings m.place m.act m.kind m.mark m.found in
    let ran : w.holdings.ran ≡ (after_move u.post.machine u.post.vcpu u.holdings m.place m.act m.kind m.mark m.found).ran = ap (λ (x : PortValue). x.holdings.ran) moved.moves.to in
    let later = stays.later formed.ran in
    record {
      later = omega (arith, later, ran);
      warm = λ same warm. ap (λ (x : PortValue). x.holdings.cold) moved.moves.to ∙ stays.warm formed.ran (sym ran ∙ same) warm;
    }

ran_warm : (v w : PortValue) (ms : List Moment) → Ran v ms w → KeepsWarm v w
ran_warm v w [] same =
    let ran : w.holdings.ran ≡ v.holdings.ran = ap (λ (x : PortValue). x.holdings.ran) same in
    record { later = omega (arith, ran); warm = λ r warm. ap (λ (x : PortValue). x.holdings.cold) same ∙ warm }
ran_warm v w (m ∷ ms) (u, before, moved) =
    let a = ran_warm v u ms before in
    let b = step_warm u w m moved in
    let a_later = a.later in
    let b_later = b.later in
    record {
      later = omega (arith, a_later, b_later);
      warm = λ same warm.
          let first : u.holdings.ran ≡ v.holdings.ran = omega (arith, a_later, b_later, same) in
          b.warm (same ∙ sym first) (a.warm first warm);
    }

pub came_warm : (v w : PortValue) → Came v w → w.holdings.ran ≡ v.holdings.ran → v.holdings.cold ≡ false → w.holdings.cold ≡ false
unfolding Came
came_warm v w came = (ran_warm v w came.0 came.1).warm
