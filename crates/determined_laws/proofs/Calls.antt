-- Calls of one step or a few, from port to port.
use Rattle.std.proofs.Common.{◌≡◌, ◌<◌, ◌==◌, ℕ, Bool, List, Result, length, refl, sym, ap, ◌∙◌, subst}
use Rattle.xp_words.specs.KindWords.{kind_fields}
use Rattle.xp_words.specs.declared.kind.PageType.{PageType}
use Rattle.xp_words.specs.declared.reply.Stop.{Stop}
use Rattle.xp_board.specs.Told.{PortValue, Post}
use Rattle.step_maker.specs.Moves.{Came}
use Rattle.step_maker.proofs.Coming.{came_post, moves_came}
use Rattle.step_maker.proofs.Visiting.{does_came}
use Rattle.frame_words.specs.Freeing.{Puts}
use Rattle.frame_words.specs.Refs.{Gets}
use Rattle.frame_types.specs.Found.{DropsPlain, TakesFound}
use Rattle.frame_types.specs.Lowering.{DropsType}
use Rattle.frame_types.specs.declared.taking.Taken.{Taken}
use Rattle.entry_locks.specs.Locks.{Unlocks}
use Rattle.determined_laws.specs.Courses.{Alike}
use Rattle.determined_laws.specs.Forks.{Agree}
use Rattle.determined_laws.proofs.Courses.{alike_does, alike_map, alike_move}
use Rattle.determined_laws.proofs.References.{gets_tie, put_tie}
use Rattle.determined_laws.proofs.Types.{drops_tie, types_tie}

-- the vCPU is one of the machine's
abbrev pub IsReal : PortValue → Type 0
IsReal v = v.post.vcpu < length v.post.machine.vcpu_domain

pub real_came : (v w : PortValue) → Came v w → IsReal v → IsReal w
real_came v w c real = subst (λ (q : Post). q.vcpu < length q.machine.vcpu_domain) (sym (came_post v w c)) real

pub gets_came : {A : Type 0} (v w : PortValue) (f owner : ℕ) (a : Result A Stop) → Gets v w f owner a → Came v w
gets_came v w f owner a p = does_came v w _ p

pub puts_came : (v w : PortValue) (f : ℕ) → Puts v w f → Came v w
puts_came v w f p = does_came v w _ p

pub drops_plain_came : (v w : PortValue) (f : ℕ) (kind : PageType) → DropsPlain v w f kind → Came v w
drops_plain_came v w f kind p = does_came v w _ p

pub takes_came : (v w : PortValue) (f owner : ℕ) (want : PageType) (a : Result Taken Stop) → TakesFound v w f owner want a → Came v w
takes_came v w f owner want a p = does_came v w _ p

pub drops_type_came : {v w : PortValue} {f : ℕ} {last : Bool} → DropsType v w f last → Came v w
drops_type_came {v} {w} p = moves_came v w _ _ _ _ _ p.lowers.step

pub unlocks_came : {v w : PortValue} {f : ℕ} {last : Bool} → Unlocks v w f last → Came v w
unlocks_came {v} {w} p = moves_came v w _ _ _ _ _ p.unlocks.step

pub gets_alike : {A : Type 0} {v w x : PortValue} (f owner : ℕ) (a b : Result A Stop) → Gets v w f owner a → Gets v x f owner b → Alike v w x (Agree a b)
gets_alike {A} {v} f owner a b p q = alike_does p q (λ us vs c d. gets_tie v.post.machine f owner a b us vs c d)

pub puts_alike : {v w x : PortValue} (f : ℕ) → Puts v w f → Puts v x f → Alike v w x (Unit {0})
puts_alike f p q = alike_does p q (λ us vs c d. put_tie f us vs c d)

pub drops_plain_alike : {v w x : PortValue} (f : ℕ) (kind : PageType) → DropsPlain v w f kind → DropsPlain v x f kind → Alike v w x (Unit {0})
drops_plain_alike f kind p q = alike_does p q (λ us vs c d. drops_tie f kind us vs c d)

pub takes_alike : {v w x : PortValue} (f owner : ℕ) (want : PageType) (a b : Result Taken Stop) → IsReal v → TakesFound v w f owner want a → TakesFound v x f owner want b → Alike v w x (a ≡ b)
takes_alike {v} f owner want a b real p q = alike_does p q (λ us vs c d. types_tie v.post real f owner want a b us vs c d)

-- it was the last one, or not, by what was found
pub drops_type_alike : {v w x : PortValue} {f : ℕ} {last other : Bool} → DropsType v w f last → DropsType v x f other → Alike v w x (last ≡ other)
drops_type_alike p q = alike_map (alike_move p.lowers.step q.lowers.step) (λ e. p.counts ∙ (ap (λ z. (kind_fields z).number == 1) e ∙ sym q.counts))

pub unlocks_alike : {v w x : PortValue} {f : ℕ} {last other : Bool} → Unlocks v w f last → Unlocks v x f other → Alike v w x (last ≡ other)
unlocks_alike p q = alike_map (alike_move p.unlocks.step q.unlocks.step) (λ e. p.counts ∙ (ap (λ z. (kind_fields z).number == 1) e ∙ sym q.counts))
