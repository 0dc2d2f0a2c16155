mod HandWalk
