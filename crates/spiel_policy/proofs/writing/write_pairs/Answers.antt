use Rattle.std.proofs.Common.{◌≡◌, ◌<◌, ◌++◌, List, length, take, sym, ap, ap₂, ◌∙◌, arith, append_assoc}
use Rattle.std.specs.Prelude.{slice_index}
use Rattle.json.specs.Token.{Token}
use Rattle.serde_json.specs.Data.{Data}
use Rattle.spiel_tree.specs.States.{numbers_of}
use Rattle.spiel_policy.specs.Profiles.{weights_of}
use Rattle.spiel_policy.specs.Writing.{data_tokens, pair_data, pairs_data, pairs_tokens}
use Rattle.spiel_policy.proofs.FileText.{pairs_tokens-push}
use Rattle.spiel_policy.proofs.Written.{pairs_more}
use Rattle.spiel_policy.proofs.writing.write_pairs.Goals as goal

pub loop-index-preserved : goal.loop-index-preserved
loop-index-preserved c =
    let numbers = numbers_of c.args.tree.now.players c.args.tree.now.rows c.args.state in
    let weights = weights_of c.args.policy.now c.args.state in
    let at = c.loop-index.index in
    let total = c.total-total.result in
    let old = c.args.writer.now.tokens in
    let within : at < length numbers = omega (arith, c.loop-index-test.true, c.loop-index.auto.index-end, c.action_count-index-end.ensures.count) in
    let long : length weights ≡ length numbers = c.requires.fits.numbers c.args.state (omega (arith, c.requires.state, c.requires.fits.states)) in
    let d = pair_data total (slice_index numbers at) (slice_index weights at) in
    let done = pairs_data total (take at numbers) (take at weights) in
    record {
      tokens = c.in_ok-write_pair.ensures.tokens
          ∙ ap₂ (λ (ts : List Token) (d : Data). ts ++ data_tokens d) c.loop-index.invariant.tokens (ap₂ (λ n w. pair_data total n w) c.action_at.ensures c.weight-weight.ensures)
          ∙ append_assoc old (pairs_tokens done) (data_tokens d)
          ∙ ap (λ (ts : List Token). old ++ ts) (sym (pairs_tokens-push done d) ∙ ap pairs_tokens (pairs_more total numbers weights at within (omega (arith, within, long))));
      before = c.in_ok-write_pair.ensures.before ∙ c.loop-index.invariant.before;
    }
