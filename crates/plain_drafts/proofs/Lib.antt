mod Drafting
