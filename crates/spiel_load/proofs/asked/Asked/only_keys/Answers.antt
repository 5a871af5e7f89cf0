use Rattle.std.proofs.Common.{Bor, Err, List, None, Some, map, ap, subst, sym, ◌∙◌, ℕ}
use Rattle.spiel_load.specs.Asked.{IsComputed, asked_view}
use Rattle.spiel_load.specs.Given.{only_keys, unless_unknown}
use Rattle.spiel_load.specs.declared.fault.LoadFault.{LoadFault}
use Rattle.spiel_load.specs.declared.fault.LoadFault.TheVariants.{UnknownParam}
use Rattle.spiel_load.proofs.Finding.{other_found}
use Rattle.spiel_load.proofs.asked.Asked.only_keys.Goals as goal

pub returns-in_ok-unknown_param-in-Some : goal.returns-in_ok-unknown_param-in-Some
unfolding only_keys
returns-in_ok-unknown_param-in-Some c =
    subst (λ (fault : LoadFault). IsComputed (only_keys (asked_view c.args.self) (map (λ (key : Bor (List ℕ)). key.now) c.args.keys.now)) fault) (sym c.in_ok-unknown_param-in-Some.ensures)
    (ap (unless_unknown c.args.self.name.now)
    (other_found (map (λ (key : Bor (List ℕ)). key.now) c.args.keys.now) c.args.self.given.now c.find_unknown.result (Some c.in-Some.pair) c.find_unknown.ensures c.in-Some.is)
    ∙ ap (λ key. Err (UnknownParam c.args.self.name.now key)) (sym c.key_of.ensures))

pub returns-in-None : goal.returns-in-None
unfolding only_keys
returns-in-None c =
    ap (unless_unknown c.args.self.name.now)
    (other_found (map (λ (key : Bor (List ℕ)). key.now) c.args.keys.now) c.args.self.given.now c.find_unknown.result None c.find_unknown.ensures c.in-None.is)
