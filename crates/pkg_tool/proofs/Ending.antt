-- What a run leaves, by how it ended.
use Rattle.std.proofs.Common.{◌≡◌, ℕ, Bool, true, false, List, ◌++◌, length, take, inr, Option, refl, sym, ap, subst, ◌∙◌}
use Rattle.std.proofs.Math.Seq.{take-append_seam}
use Rattle.store_model.specs.declared.events.Event.{Event}
use Rattle.system_updater.specs.Viewing.{Told}
use Rattle.pkg_tool.specs.declared.running.Status.{Status}
use Rattle.pkg_tool.specs.declared.running.Status.TheVariants.{Done, BadWords, BadScript, ScriptFault, SinkFault, NoMemory, FewRepos}
use Rattle.script_server.specs.Serving.{ServesScript}
use Rattle.pkg_tool.specs.Running.{Leaves}
use Rattle.pkg_tool.specs.Steps.{IsPrintEnd, last_status}

-- a run whose lanes were served
pub ended : (printed : Status) (text : Option (List ℕ)) (starved : Bool) (history : List Event) (repos repos_now : List Told) → IsPrintEnd printed
    → ServesScript text starved history repos repos_now → Leaves (last_status printed starved) text starved history repos repos_now
ended Done text true history repos repos_now end serves = inr serves
ended Done text false history repos repos_now end serves = (refl, serves)
ended SinkFault text true history repos repos_now end serves = serves
ended SinkFault text false history repos repos_now end serves = serves
ended NoMemory text true history repos repos_now end serves = inr serves
ended NoMemory text false history repos repos_now end serves = inr serves
ended BadWords text starved history repos repos_now end serves = absurd end
ended (BadScript line) text starved history repos repos_now end serves = absurd end
ended ScriptFault text starved history repos repos_now end serves = absurd end
ended (FewRepos have need) text starved history repos repos_now end serves = absurd end

-- with the status that it comes to
pub ended_so : (status printed : Status) (text : Option (List ℕ)) (starved : Bool) (history : List Event) (repos repos_now : List Told) → status ≡ last_status printed starved
    → IsPrintEnd printed → ServesScript text starved history repos repos_now → Leaves status text starved history repos repos_now
ended_so status printed text starved history repos repos_now is end serves =
    subst (λ (s : Status). Leaves s text starved history repos repos_now) (sym is) (ended printed text starved history repos repos_now end serves)

-- what was lent is there again
pub put_back : {A : Type 0} (n : ℕ) (xs ys : List A) → n ≡ length xs → take n (xs ++ ys) ≡ xs
put_back n xs ys is = ap (λ (m : ℕ). take m (xs ++ ys)) is ∙ take-append_seam xs ys
