-- What an operation is, as the code sees it.
use Rattle.std.specs.Prelude.{◌≡◌, Option}
use Rattle.vcpu_turn.specs.Cpus.{Job, OfCalls, OfDestroy, OfOne, Task}
use Rattle.vcpu_turn.specs.declared.calls.Kind.{Kind}
use Rattle.vcpu_turn.specs.declared.calls.Kind.TheVariants as kinds

abbrev pub IsKindOf : Kind → Job → Option Task → Type 0
IsKindOf (kinds.Calls calls) job task = job ≡ OfCalls calls.now
IsKindOf (kinds.Destroy domain) job task = job ≡ OfDestroy domain
IsKindOf kinds.One job task = job ≡ OfOne task
