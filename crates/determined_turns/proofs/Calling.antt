-- Multicalls and destructions are determined, and so is what a turn does of an operation.
use Rattle.std.proofs.Common.{◌≡◌, ◌≤◌, ◌<◌, ℕ, ◌+◌, Bool, true, false, List, [], ◌∷◌, ◌++◌, length, slice_get, Option, Some, None, Result, Ok, Err, refl, sym, ap, ◌∙◌, subst, inl, inr}
use native.Mathlib.Omega.{arith}
use Rattle.xp_words.specs.declared.ops.Call.{Call}
use Rattle.xp_words.specs.declared.reply.LogLine.{LogLine}
use Rattle.xp_words.specs.declared.reply.LogLine.TheVariants as lines
use Rattle.xp_words.specs.declared.reply.Pause.{Pause}
use Rattle.xp_words.specs.declared.reply.Refusal.TheVariants as refusals
use Rattle.xp_words.specs.declared.reply.Reply.{Reply}
use Rattle.xp_words.specs.declared.reply.Stop.{Stop}
use Rattle.xp_words.specs.declared.reply.Stop.TheVariants.{Paused, Refused}
use Rattle.xp_board.specs.Told.{PortValue}
use Rattle.step_maker.specs.Moves.{Came}
use Rattle.step_maker.proofs.Coming.{came_self, came_trans, moves_came}
use Rattle.xp_preempt.specs.Gates.{GivesAnswers, asks_on}
use Rattle.vcpu_turn.specs.Calls.{AnsweredCalls, AnswersCall, EndsCall, WorksCalls, replied}
use Rattle.vcpu_turn.specs.Cpus.{begun_at, call_behind, task_in}
use Rattle.vcpu_turn.specs.Settling.{Settles}
use Rattle.vcpu_turn.specs.Working.{WentOn}
use Rattle.vcpu_turn.specs.declared.cpu.Progress.{Progress}
use Rattle.determined_laws.specs.Courses.{Alike, Forked}
use Rattle.determined_laws.proofs.Courses.{alike_apart, alike_map, alike_move, alike_next, alike_same}
use Rattle.determined_calls.proofs.Asking.{gives_first, gives_more}
use Rattle.determined_turns.proofs.Lists.{Answer}
use Rattle.determined_turns.proofs.Settling.{both_answers, settles_alike, settles_came}
use Rattle.determined_turns.proofs.Working.{SameWay, went_alike, went_came}

-- ---- one call
-- an answer that has a reply is no pause
unpaused : (done : ℕ) (a : Result ℕ Stop) (p : Pause) (reply : Reply) → a ≡ Err (Paused p) → replied done a ≡ Some reply → ⊥
unpaused done a p reply is has = let s : replied done (Err (Paused p)) ≡ Some reply = ap (λ z. replied done z) (sym is) ∙ has in cc

one_reply : (done more : ℕ) (a b : Result ℕ Stop) (r s : Reply) → done ≡ more → a ≡ b → replied done a ≡ Some r → replied more b ≡ Some s → r ≡ s
one_reply done more a b r s e f p q = let t : ◌≡◌ {A = Option Reply} (Some r) (Some s) = sym p ∙ (ap (λ z. replied z a) e ∙ (ap (λ z. replied more z) f ∙ q)) in cc

module _ (says : ℕ → Bool) (d : ℕ) (call : Call) (op : ℕ) (from : Progress) (log : List LogLine) where
  abbrev Ends : (to by : Progress) (one two : List LogLine) (answers others : List Bool) (a b : Answer) → Type 0
  Ends to by one two answers others a b = (to ≡ by) × (one ≡ two) × (answers ≡ others) × (a ≡ b)

  abbrev Went : PortValue → Progress → PortValue → List LogLine → List Bool → Result ℕ Stop → Type 0
  Went u to x late asked a = WentOn d (task_in call) (call_behind op from.call) u from to x log late asked a

  pub call_came : (n : ℕ) (v : PortValue) (to : Progress) (w : PortValue) (late : List LogLine) (answers : List Bool) (a : Answer) → GivesAnswers says n answers → AnswersCall d call op v from log to w late answers a → Came v w
  call_came n v _ _ _ _ _ g (AnswersCall.unsettled w early stop settles) = settles_came settles
  call_came n v _ _ _ _ _ g (AnswersCall.paused to u w late early asked p settles went) = came_trans v u w (settles_came settles) (went_came says (asks_on (length early) n) (gives_more says n asked early g) went)
  call_came n v _ _ _ _ _ g (AnswersCall.answered to u x w late early asked a reply settles went replies ends) =
      came_trans v u w (settles_came settles) (came_trans u x w (went_came says (asks_on (length early) n) (gives_more says n asked early g) went) (moves_came x w _ _ _ _ _ ends.1))

  -- behind what was settled: it is paused, or answered
  data Rest (u : PortValue) (to : Progress) (w : PortValue) (late : List LogLine) (asked : List Bool) (a : Answer) : Type 0 where
    paused : (p : Pause) → Went u to w late asked (Err (Paused p)) → a ≡ Err (Paused p) → Rest u to w late asked a
    answered : (by : Progress) (x : PortValue) (before : List LogLine) (b : Result ℕ Stop) (reply : Reply) → Went u by x before asked b → replied by.done b ≡ Some reply → EndsCall (from.call + 1) x w → to ≡ begun_at (from.call + 1) →
        late ≡ before ++ lines.Answer op (from.call + 1) reply ∷ [] → a ≡ Ok tt → Rest u to w late asked a

  rest_came : (m : ℕ) (u : PortValue) (to : Progress) (w : PortValue) (late : List LogLine) (asked : List Bool) (a : Answer) → GivesAnswers says m asked → Rest u to w late asked a → Came u w
  rest_came m u to w late asked a g (paused p went is) = went_came says m g went
  rest_came m u to w late asked a g (answered by x before b reply went replies ends at logs is) = came_trans u x w (went_came says m g went) (moves_came x w _ _ _ _ _ ends.1)

  rest_alike : (m : ℕ) (u : PortValue) (to by : Progress) (w x : PortValue) (late log' : List LogLine) (asked others : List Bool) (a b : Answer) → GivesAnswers says m asked → GivesAnswers says m others → Rest u to w late asked a →
      Rest u by x log' others b → Alike u w x (Ends to by late log' asked others a b)
  rest_alike m u to by w x late log' asked others a b g h (paused p went is) (paused q goes also) =
      alike_map (went_alike says m g h went goes) (λ s. (s.0, s.1, s.2, is ∙ (same_pause p q s.3 ∙ sym also)))
    where
      same_pause : (p q : Pause) → ◌≡◌ {A = Result ℕ Stop} (Err (Paused p)) (Err (Paused q)) → ◌≡◌ {A = Answer} (Err (Paused p)) (Err (Paused q))
      same_pause p q e = let t : p ≡ q = cc in ap (λ z. Err (Paused z)) t
  rest_alike m u to by w x late log' asked others a b g h (paused p went is) (answered at y before c reply goes replies ends there logs also) =
      alike_apart (came_self w) (moves_came y x _ _ _ _ _ ends.1) (went_alike says m g h went goes) (λ s. unpaused at.done c p reply (sym s.3) replies)
  rest_alike m u to by w x late log' asked others a b g h (answered at y before c reply goes replies ends there logs also) (paused p went is) =
      alike_apart (moves_came y w _ _ _ _ _ ends.1) (came_self x) (went_alike says m g h goes went) (λ s. unpaused at.done c p reply s.3 replies)
  rest_alike m u to by w x late log' asked others a b g h (answered at y before c reply went replies ends there logs is) (answered where_at z early e word goes tells stops here lists also) =
      alike_next (λ k. EndsCall (from.call + 1) k x) (went_came says m g went) (moves_came y w _ _ _ _ _ ends.1) (moves_came z x _ _ _ _ _ stops.1) (went_alike says m g h went goes) stops
      (λ s more. alike_map (alike_move ends.1 more.1) (λ t. (
        there ∙ sym here,
        logs ∙ (ap (λ k. k ++ lines.Answer op (from.call + 1) reply ∷ []) s.1
            ∙ (ap (λ k. early ++ lines.Answer op (from.call + 1) k ∷ []) (one_reply at.done where_at.done c e reply word (ap (λ (k : Progress). k.done) s.0) s.3 replies tells) ∙ sym lists)),
        s.2,
        is ∙ sym also,
      )))

  data Parts (v : PortValue) (to : Progress) (w : PortValue) (late : List LogLine) (answers : List Bool) (a : Answer) : Type 0 where
    unsettled : (stop : Stop) → Settles None v w answers (Err stop) → to ≡ from → late ≡ log → a ≡ Err stop → Parts v to w late answers a
    settled : (u : PortValue) (early asked : List Bool) → Settles None v u early (Ok tt) → Rest u to w late asked a → answers ≡ asked ++ early → Parts v to w late answers a

  parts : (v : PortValue) (to : Progress) (w : PortValue) (late : List LogLine) (answers : List Bool) (a : Answer) → AnswersCall d call op v from log to w late answers a → Parts v to w late answers a
  parts v _ _ _ _ _ (AnswersCall.unsettled w early stop settles) = unsettled stop settles refl refl refl
  parts v _ _ _ _ _ (AnswersCall.paused to u w late early asked p settles went) = settled u early asked settles (paused p went refl) refl
  parts v _ _ _ _ _ (AnswersCall.answered to u x w late early asked a reply settles went replies ends) = settled u early asked settles (answered to x late a reply went replies ends refl refl refl) refl

  parts_alike : (n : ℕ) (v : PortValue) (to by : Progress) (w x : PortValue) (late log' : List LogLine) (answers others : List Bool) (a b : Answer) → GivesAnswers says n answers → GivesAnswers says n others → Parts v to w late answers a →
      Parts v by x log' others b → Alike v w x (Ends to by late log' answers others a b)
  parts_alike n v to by w x late log' answers others a b g h (unsettled stop p at logs is) (unsettled halt q there lists also) =
      alike_map (settles_alike says n g h p q) (λ s. (at ∙ sym there, logs ∙ sym lists, s.0, is ∙ (s.1 ∙ sym also)))
  parts_alike n v to by w x late log' answers others a b g h (unsettled stop p at logs is) (settled u early asked q rest lists) =
      let i = subst (GivesAnswers says n) lists h in
      alike_apart (came_self w) (rest_came (asks_on (length early) n) u by x log' asked b (gives_more says n asked early i) rest) (settles_alike says n g (gives_first says n asked early i) p q) (λ s. absurd (let t = s.1 in cc))
  parts_alike n v to by w x late log' answers others a b g h (settled u early asked q rest lists) (unsettled stop p at logs is) =
      let i = subst (GivesAnswers says n) lists g in
      alike_apart (rest_came (asks_on (length early) n) u to w late asked a (gives_more says n asked early i) rest) (came_self x) (settles_alike says n (gives_first says n asked early i) h q p) (λ s. absurd (let t = s.1 in cc))
  parts_alike n v to by w x late log' answers others a b g h (settled u early asked p rest is) (settled y first more q behind also) =
      let i = subst (GivesAnswers says n) is g in
      let j = subst (GivesAnswers says n) also h in
      alike_next (λ z. Rest z by x log' more b) (settles_came p) (rest_came (asks_on (length early) n) u to w late asked a (gives_more says n asked early i) rest) (rest_came (asks_on (length first) n) y by x log' more b (gives_more says n more first j) behind)
      (settles_alike says n (gives_first says n asked early i) (gives_first says n more first j) p q) behind
      (λ s last. alike_map
      (rest_alike (asks_on (length early) n) u to by w x late log' asked more a b (gives_more says n asked early i) (subst (λ z. GivesAnswers says (asks_on (length z) n) more) (sym s.0) (gives_more says n more first j)) rest last)
      (λ t. (t.0, t.1, is ∙ (both_answers early first asked more s.0 t.2 ∙ sym also), t.3)))

  pub call_alike : (n : ℕ) (v : PortValue) (to by : Progress) (w x : PortValue) (late log' : List LogLine) (answers others : List Bool) (a b : Answer) → GivesAnswers says n answers → GivesAnswers says n others →
      AnswersCall d call op v from log to w late answers a → AnswersCall d call op v from log by x log' others b → Alike v w x (Ends to by late log' answers others a b)
  call_alike n v to by w x late log' answers others a b g h p q = parts_alike n v to by w x late log' answers others a b g h (parts v to w late answers a p) (parts v by x log' others b q)
