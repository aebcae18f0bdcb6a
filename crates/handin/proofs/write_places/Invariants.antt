use mathlib.Core.Path.{◌≡◌}
use mathlib.Core.List.{◌++◌, map}
use Prim.Native.Nat.{◌≤◌}
use lib.ListN.{length, drop}
use Rattle.std.specs.Iterator.Adapters.{enumerate_source, enumerate_count}
use Rattle.limits.specs.Limits as limit
use Rattle.model.specs.Places.{number_of}
use Rattle.handin.proofs.Laws.{RunSo, Says}
use Rattle.handin.proofs.write_places.Given as goal

abbrev pub invariant-loop-k : goal.invariant-loop-k
invariant-loop-k l =
    (limit.run ≤ length l.initial.run) × Says l.left × (so : RunSo l.left (enumerate_source l.k-iterator).left.now (enumerate_count l.k-iterator)) × (l.run ≡ map number_of so.ps ++ drop (enumerate_count l.k-iterator) l.initial.run)
