use Rattle.spiel_string.proofs.Quoted.{says_text, quoted_token}
use Rattle.spiel_string.proofs.quoting.write_quoted.Goals as goal

pub returns-in_err-push-clause-reads_back : goal.returns-in_err-push-clause-reads_back
returns-in_err-push-clause-reads_back c = says_text c.args.text.now

pub returns-in_err-push-clause-token : goal.returns-in_err-push-clause-token
returns-in_err-push-clause-token c = quoted_token c.args.text.now

pub returns-in_err-push_all_escaped-clause-reads_back : goal.returns-in_err-push_all_escaped-clause-reads_back
returns-in_err-push_all_escaped-clause-reads_back c = says_text c.args.text.now

pub returns-in_err-push_all_escaped-clause-token : goal.returns-in_err-push_all_escaped-clause-token
returns-in_err-push_all_escaped-clause-token c = quoted_token c.args.text.now

pub returns-clause-reads_back : goal.returns-clause-reads_back
returns-clause-reads_back c = says_text c.args.text.now

pub returns-clause-token : goal.returns-clause-token
returns-clause-token c = quoted_token c.args.text.now
