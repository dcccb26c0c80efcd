use Rattle.std.proofs.Common.{refl}
use Rattle.resolver.specs.declared.reply.ResolveReply.TheVariants as replies
use Rattle.resolver.specs.Serving.Point.{Asking}
use Rattle.repo_source.proofs.Faults.{failed_same}
use Rattle.resolver.proofs.Goes.{goes_none}
use Rattle.resolver.proofs.Whole.{whole_told, alone}
use Rattle.resolver.proofs.resolving.resolve.Goals as goal

pub returns-in-Err : goal.returns-in-Err
returns-in-Err g c =
    let v = g.K.Desk.view c.args.desk.now in
    let path = c.args.url.now.path in
    let pin = c.args.url.now.pin in
    let listing = g.R.Repo.listing c.args.repo.now in
    let files = g.R.Repo.files c.args.repo.now in
    let x = g.R.Repo.faults c.args.repo.now in
    let p = g.R.Repo.fetches c.args.repo.now in
    let start = Asking path pin in
    record {
      run = whole_told path pin start replies.NoMemory v v listing files x x p p (alone start start v v listing files x x p p refl (goes_none start v listing files x x (failed_same x))) refl refl;
      images = λ image bytes is. is;
      firm = (λ is. is, λ is. is);
      listing = refl;
      files = refl;
    }
