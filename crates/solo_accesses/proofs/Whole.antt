-- A whole walk, done again on words, and the plain one.
use Rattle.std.proofs.Common.{◌≡◌, ◌≢◌, ℕ, zero, suc, ◌-◌, ◌≤◌, Bool, true, false, List, Option, None, Result, Err, refl, sym, ◌∙◌, subst, arith}
use Rattle.std.proofs.lemmas.Bool.Decides.{nat_tests}
use Rattle.xp_words.specs.Machine.{Machine}
use Rattle.xp_words.specs.Places.{is_place, memory, sizes_of}
use Rattle.xp_words.specs.declared.place.Place.TheVariants.{Vcpu}
use Rattle.xp_words.specs.declared.reply.Refusal.TheVariants.{NotMapped}
use Rattle.xp_words.specs.declared.reply.Stop.{Stop}
use Rattle.xp_words.specs.declared.reply.Stop.TheVariants.{Refused}
use Rattle.xp_board.specs.Sound.{Spelled}
use Rattle.xp_board.specs.Spelling.{IsSpelling}
use Rattle.xp_board.specs.Told.{PortValue, Story, told_word, word_in}
use Rattle.step_maker.specs.Plain.{Words}
use Rattle.step_maker.specs.Visits.{Only, Visit}
use Rattle.answer_laws.specs.Alone.{IsAlone}
use Rattle.replay_laws.specs.Replays.{Replays, ReplaysAs, SameWords}
use Rattle.replay_laws.proofs.Replaying.{as_only, as_then, look_leaves}
use Rattle.tlb_walks.specs.Addresses.{walk_refusal}
use Rattle.tlb_walks.specs.Walks as by
use Rattle.tlb_walks.specs.Walks.{PathBy, WalkBy, base_visit, top_word}
use Rattle.tlb_walks.specs.declared.walks.Walked.{Walked}
use Rattle.table_law.specs.Plain.{Plain}
use Rattle.script_law.specs.Walks.{from_base}
use Rattle.solo_accesses.proofs.Cells.{CellsOf, cells_same, only_same, only_then}
use Rattle.solo_accesses.proofs.Walking.{WalkedAs, walked_down}

-- ---- a base names a frame of the machine, or none
top_by : (n : Machine) (m : Words) (s : ℕ) (user : Bool) → Spelled n m → (b : Bool) → is_place (sizes_of n) (Vcpu s (top_word user)) ≡ b → m (Vcpu s (top_word user)) ≤ n.frames
unfolding IsSpelling
top_by n m s true spelled true is = let v = (spelled.spelled (Vcpu s (top_word true)) is).1 in grind (arith, nat_tests)
top_by n m s false spelled true is = let v = (spelled.spelled (Vcpu s (top_word false)) is).1 in grind (arith, nat_tests)
top_by n m s user spelled false is = let none = spelled.outside (Vcpu s (top_word user)) is in omega arith

pub top_few : (v : PortValue) (s : ℕ) (user : Bool) → IsAlone v → told_word v (Vcpu s (top_word user)) ≤ v.post.machine.frames
top_few v s user alone =
    let n = v.post.machine in
    let few = top_by n (memory (sizes_of n) alone.story.words) s user alone.state.sound.spelled (is_place (sizes_of n) (Vcpu s (top_word user))) refl in
    subst (λ (o : Option Story). word_in n o (Vcpu s (top_word user)) ≤ n.frames) (sym alone.telling) few

-- ---- from the base on
module _ (n : Machine) (s : ℕ) (user : Bool) (va : ℕ) (write : Bool) (answer : Result Walked Stop) (m u : Words) (p : Plain) (cells : CellsOf n m p) where
  none_named : m (Vcpu s (top_word user)) ≡ 0 → SameWords m u → answer ≡ Err (Refused (NotMapped 5 0)) → WalkedAs n m u answer (from_base n va write (m (Vcpu s (top_word user))) p)
  none_named zero_is same is =
      subst (λ a. WalkedAs n m u a (from_base n va write (m (Vcpu s (top_word user))) p)) (sym is)
      (subst (λ b. WalkedAs n m u (Err (Refused (NotMapped 5 0))) (from_base n va write b p)) (sym zero_is) ((refl, cells_same n m u p same cells), only_same m u same))

  from_top : (base : ℕ) → base ≢ 0 → base ≤ n.frames → (k : Words) → SameWords m k → (vs : List Visit) → PathBy n va write answer 4 (base - 1) None vs → Replays k vs u → WalkedAs n m u answer (from_base n va write base p)
  from_top zero some few k same vs path replays = absurd (some refl)
  from_top (suc table) some few k same vs path replays =
      let one : suc table - 1 ≡ table = omega arith in
      let a = walked_down n va write answer 4 table None vs (subst (λ t. PathBy n va write answer 4 t None vs) one path) 3 refl k u p replays (cells_same n m k p same cells) few in
      (a.0, only_then m k u (only_same m k same) a.1)

  pub walked_whole : walk_refusal va ≡ None → m (Vcpu s (top_word user)) ≤ n.frames → ReplaysAs m (WalkBy n s user va write answer) u → WalkedAs n m u answer (from_base n va write (m (Vcpu s (top_word user))) p)
  walked_whole free few a = by_like a.list a.like a.replays
    where
      by_like : (vs : List Visit) → WalkBy n s user va write answer vs → Replays m vs u → WalkedAs n m u answer (from_base n va write (m (Vcpu s (top_word user))) p)
      by_like vs (by.barred x why is none) replays = absurd (let no = sym free ∙ why in cc)
      by_like vs (by.baseless may is only) replays =
          let look = as_only m u (base_visit s user write 0) (record { list = vs; like = only; replays = replays }) in
          none_named look.0 (λ q. look.1 q ∙ look_leaves m (base_visit s user write 0) refl q) is
      by_like vs (by.walks base may some then) replays =
          let parts = as_then m u (Only (base_visit s user write base)) (PathBy n va write answer 4 (base - 1) None) (record { list = vs; like = then; replays = replays }) in
          let look = as_only m parts.0 (base_visit s user write base) parts.1 in
          let same : SameWords m parts.0 = λ q. look.1 q ∙ look_leaves m (base_visit s user write base) refl q in
          subst (λ b. WalkedAs n m u answer (from_base n va write b p)) (sym look.0)
          (from_top base some (subst (λ b. b ≤ n.frames) look.0 few) parts.0 same parts.2.list parts.2.like parts.2.replays)
