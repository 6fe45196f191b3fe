use Rattle.std.proofs.Common.{option_copied}
use Rattle.ref_uri.proofs.PlainText.{plain_normal, plain_there}
use Rattle.ref_uri.proofs.target.is_settled.Goals as goal

pub returns : goal.returns
returns c = λ yes.
    record {
      scheme = c.is_lower.ensures c.if-not-is_lower.false;
      authority = c.is_plain_authority.ensures c.if-not-is_plain_authority.false;
      removed = c.lacks_dots.ensures yes;
      path = plain_normal c.args.reference.path.now c.requires.path;
      query = plain_there (option_copied c.args.reference.query) c.requires.query;
      fragment = plain_there (option_copied c.args.reference.fragment) c.requires.fragment;
    }
